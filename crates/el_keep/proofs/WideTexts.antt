-- What is widened by bytes is what is widened by items, and what the loop over words widens.
use Rattle.std.proofs.Common.{◌≡◌, ℕ, suc, ◌+◌, ◌<◌, Bool, true, false, List, [], ◌∷◌, ◌++◌, refl, sym, ap, ap₂, ◌∙◌, append_assoc, arith, length, subst}
use Rattle.std.specs.Prelude.{◌==◌, ◌||◌}
use Rattle.std.proofs.lemmas.Bool.{and_parts}
use Rattle.el_lex.specs.Bytes.{is_over_or}
use Rattle.el_lex.specs.Reading.{Item, Blank, Comment, Wordly, text, fit, is_comment}
use Rattle.el_keep.specs.Parts.{gap_in, word_in, rest_in}
use Rattle.el_keep.specs.Kept.{past_word}
use Rattle.el_keep.specs.Widened.{before_word, has_break, is_added, gap_at, left_at, widened_from, widened}
use Rattle.el_keep.specs.Texts.{at_word, ends_line, adds_word, gap_text_at, text_left_at, widened_words, widened_text}
use Rattle.el_keep.proofs.Words.{fit-parts, comment-byte, gap_text, from_word, first_word, gap-run, word-is, rest-is, past_word-fits, no-word, parts-length}
use Rattle.el_keep.proofs.Gaps.{text-append}
use Rattle.el_keep.proofs.Loops.{at-end, at-some}
use Rattle.el_keep.proofs.WideItems.{or-parts, or-none}

-- ---- gaps

pub text-before : (items : List Item) → text (before_word items) ≡ gap_text items
text-before [] = refl
text-before (Blank byte ∷ items) = ap (λ (more : List ℕ). byte ∷ more) (text-before items)
text-before (Comment bytes ∷ items) = ap (λ (more : List ℕ). (35 ∷ bytes) ++ more) (text-before items)
text-before (Wordly piece pieces ∷ items) = refl

comment-ends : (bytes more : List ℕ) → is_comment bytes ≡ true → ends_line (bytes ++ more) ≡ ends_line more
comment-ends [] more is = refl
comment-ends (byte ∷ bytes) more is =
    let parts = comment-byte byte bytes is in
    ap (λ (here : Bool). here || ends_line (bytes ++ more)) parts.0 ∙ comment-ends bytes more parts.1

ends-break : (items : List Item) → fit items [] ≡ true → ends_line (gap_text items) ≡ has_break items
ends-break [] fits = refl
ends-break (Blank byte ∷ items) fits = ap (λ (more : Bool). (byte == 10) || more) (ends-break items (fit-parts (Blank byte) items fits).1)
ends-break (Comment bytes ∷ items) fits =
    let parts = fit-parts (Comment bytes) items fits in
    let is = and_parts (is_comment bytes) (is_over_or (λ byte. byte == 10) (text items)) parts.0 in
    comment-ends bytes (gap_text items) is.0 ∙ ends-break items parts.1
ends-break (Wordly piece pieces ∷ items) fits = refl

adds-is : (plain layout : List Item) → fit plain [] ≡ true → fit layout [] ≡ true → adds_word (text plain) (text layout) ≡ is_added (has_break plain) (has_break layout)
adds-is plain layout plain_fits fits =
    ap₂ is_added (ap ends_line (gap-run plain plain_fits) ∙ ends-break plain plain_fits) (ap ends_line (gap-run layout fits) ∙ ends-break layout fits)

gap-at : (added : Bool) (script : List Item) → fit script [] ≡ true → gap_text_at added (text script) ≡ text (gap_at added script)
gap-at true script fits = refl
gap-at false script fits = gap-run script fits ∙ sym (text-before script)

left-at : (added : Bool) (items : List Item) → fit items [] ≡ true → text_left_at added (text items) ≡ text (left_at added items)
left-at true items fits = refl
left-at false items fits = rest-is items fits

left-fits : (added : Bool) (items : List Item) → fit items [] ≡ true → fit (left_at added items) [] ≡ true
left-fits true items fits = fits
left-fits false items fits = past_word-fits items fits

-- ---- items

widened-ends : (breaks : Bool) (plain layout script : List Item) → from_word layout ≡ [] → fit script [] ≡ true → gap_in (text script) ≡ text (widened_from breaks plain layout script)
widened-ends breaks plain [] script none fits = gap-run script fits ∙ sym (text-before script)
widened-ends breaks plain (Blank byte ∷ layout) script none fits = widened-ends (breaks || (byte == 10)) plain layout script none fits
widened-ends breaks plain (Comment bytes ∷ layout) script none fits = widened-ends breaks plain layout script none fits
widened-ends breaks plain (Wordly piece pieces ∷ layout) script none fits = let no : ⊥ = cc in absurd no

-- what stands before the next word of the layout, this word, and what is left
abbrev next : (added : Bool) → (plain layout script : List Item) → List ℕ
next added plain layout script = text (gap_at added script) ++ (first_word layout ++ text (widened_from false (left_at added plain) (past_word layout) (left_at added script)))

widened-goes : (breaks : Bool) (plain layout script : List Item) → (first_word layout ≡ [] → ⊥)
    → next (is_added (has_break plain) (breaks || has_break layout)) plain layout script ≡ text (widened_from breaks plain layout script)
widened-goes breaks plain [] script some = absurd (some refl)
widened-goes breaks plain (Blank byte ∷ layout) script some =
    ap (λ (b : Bool). next (is_added (has_break plain) b) plain layout script) (sym (or-parts breaks (byte == 10) (has_break layout)))
    ∙ widened-goes (breaks || (byte == 10)) plain layout script some
widened-goes breaks plain (Comment bytes ∷ layout) script some = widened-goes breaks plain layout script some
widened-goes breaks plain (Wordly piece pieces ∷ layout) script some =
    let added = is_added (has_break plain) breaks in
    ap (λ (b : Bool). next (is_added (has_break plain) b) plain (Wordly piece pieces ∷ layout) script) (or-none breaks)
    ∙ sym (text-append (gap_at added script) (Wordly piece pieces ∷ widened_from false (left_at added plain) layout (left_at added script)))

words-widened : (most : ℕ) (plain layout script : List Item) → length (text layout) < most → fit plain [] ≡ true → fit layout [] ≡ true → fit script [] ≡ true
    → widened_words most (text plain) (text layout) (text script) ≡ text (widened_from false plain layout script)
unfolding widened_words
words-widened Prim.Native.Nat.zero plain layout script less plain_fits fits script_fits = absurd (omega (arith, less))
words-widened (suc most) plain layout script less plain_fits fits script_fits =
    let added = is_added (has_break plain) (has_break layout) in
    rw (adds-is plain layout plain_fits fits, gap-at added script script_fits, left-at added plain plain_fits, left-at added script script_fits, rest-is layout fits, word-is layout fits)
    (by (first_word layout) refl (λ (fewer : length (text (past_word layout)) < most).
    words-widened most (left_at added plain) (past_word layout) (left_at added script) fewer
    (left-fits added plain plain_fits) (past_word-fits layout fits) (left-fits added script script_fits)))
  where
    by : (word : List ℕ) → first_word layout ≡ word
        → (length (text (past_word layout)) < most
        → widened_words most (text (left_at (is_added (has_break plain) (has_break layout)) plain)) (text (past_word layout)) (text (left_at (is_added (has_break plain) (has_break layout)) script))
        ≡ text (widened_from false (left_at (is_added (has_break plain) (has_break layout)) plain) (past_word layout) (left_at (is_added (has_break plain) (has_break layout)) script)))
        → at_word word (gap_in (text script))
        (text (gap_at (is_added (has_break plain) (has_break layout)) script)
        ++ (first_word layout
        ++ widened_words most (text (left_at (is_added (has_break plain) (has_break layout)) plain)) (text (past_word layout)) (text (left_at (is_added (has_break plain) (has_break layout)) script))))
        ≡ text (widened_from false plain layout script)
    by [] none later = widened-ends false plain layout script (no-word layout none) script_fits
    by (byte ∷ word) some later =
        let shorter = parts-length layout in
        let here = ap (λ (bytes : List ℕ). length bytes) some in
        ap (λ (more : List ℕ). text (gap_at (is_added (has_break plain) (has_break layout)) script) ++ (first_word layout ++ more)) (later (omega (arith, less, shorter, here)))
        ∙ widened-goes false plain layout script (λ none. let no : ⊥ = cc (some, none) in no)

pub text-widened : (plain layout script : List Item) → fit plain [] ≡ true → fit layout [] ≡ true → fit script [] ≡ true
    → widened_text (text plain) (text layout) (text script) ≡ text (widened plain layout script)
unfolding widened_text
text-widened plain layout script plain_fits fits script_fits = words-widened (suc (length (text layout))) plain layout script (omega arith) plain_fits fits script_fits

-- ---- the loop

-- with so much written, all that is left of these texts is to be written
pub record WideLeft (whole out plain layout script : List ℕ) : Type 0 where
  pub most : ℕ
  pub enough : length layout < most
  pub goes : out ++ widened_words most plain layout script ≡ whole

pub wide-all : (plain layout script : List ℕ) → WideLeft (widened_text plain layout script) [] plain layout script
unfolding widened_text
wide-all plain layout script = record { most = suc (length layout); enough = omega arith; goes = refl }

-- a step of the words that are left
words-behind : (most : ℕ) (plain layout script : List ℕ) → (word_in layout ≡ [] → ⊥)
    → widened_words (suc most) plain layout script
    ≡ gap_text_at (adds_word plain layout) script
    ++ (word_in layout ++ widened_words most (text_left_at (adds_word plain layout) plain) (rest_in layout) (text_left_at (adds_word plain layout) script))
unfolding widened_words
words-behind most plain layout script some = at-some (word_in layout) _ _ some

words-none : (most : ℕ) (plain layout script : List ℕ) → word_in layout ≡ [] → widened_words (suc most) plain layout script ≡ gap_in script
unfolding widened_words
words-none most plain layout script none = at-end (word_in layout) _ _ none

-- the gap and the word are written
wide-behind : (whole out plain layout script : List ℕ) → (word_in layout ≡ [] → ⊥) → length (rest_in layout) < length layout → WideLeft whole out plain layout script
    → WideLeft whole ((out ++ gap_text_at (adds_word plain layout) script) ++ word_in layout) (text_left_at (adds_word plain layout) plain) (rest_in layout) (text_left_at (adds_word plain layout) script)
wide-behind whole out plain layout script some shorter left = by left.most left.enough left.goes
  where
    by : (most : ℕ) → length layout < most → out ++ widened_words most plain layout script ≡ whole
        → WideLeft whole ((out ++ gap_text_at (adds_word plain layout) script) ++ word_in layout) (text_left_at (adds_word plain layout) plain) (rest_in layout) (text_left_at (adds_word plain layout) script)
    by Prim.Native.Nat.zero enough goes = absurd (omega (arith, enough))
    by (suc most) enough goes =
        let gap = gap_text_at (adds_word plain layout) script in
        let behind = widened_words most (text_left_at (adds_word plain layout) plain) (rest_in layout) (text_left_at (adds_word plain layout) script) in
        record {
          most = most;
          enough = omega (arith, enough, shorter);
          goes = append_assoc (out ++ gap) (word_in layout) behind ∙ append_assoc out gap (word_in layout ++ behind)
              ∙ ap (λ (more : List ℕ). out ++ more) (sym (words-behind most plain layout script some)) ∙ goes;
        }

-- up to the end
wide-none : (whole out plain layout script : List ℕ) → word_in layout ≡ [] → WideLeft whole out plain layout script → out ++ gap_in script ≡ whole
wide-none whole out plain layout script none left = by left.most left.enough left.goes
  where
    by : (most : ℕ) → length layout < most → out ++ widened_words most plain layout script ≡ whole → out ++ gap_in script ≡ whole
    by Prim.Native.Nat.zero enough goes = absurd (omega (arith, enough))
    by (suc most) enough goes = ap (λ (more : List ℕ). out ++ more) (sym (words-none most plain layout script none)) ∙ goes

-- the same by what the calls of a round say
pub wide-round : {whole out plain layout script out_gap out_word gap place_gap plain_gap word rest plain_rest script_rest : List ℕ} {added : Bool} → WideLeft whole out plain layout script
    → place_gap ≡ gap_in layout → word ≡ word_in layout → rest ≡ rest_in layout → plain_gap ≡ gap_in plain → added ≡ is_added (ends_line plain_gap) (ends_line place_gap)
    → gap ≡ gap_text_at added script → out_gap ≡ out ++ gap → out_word ≡ out_gap ++ word → plain_rest ≡ text_left_at added plain → script_rest ≡ text_left_at added script
    → (word ≡ [] → ⊥) → length rest < length layout → WideLeft whole out_word plain_rest rest script_rest
wide-round {whole} {out} {plain} {layout} {script} left pg w r og a g o ow pr sr some shorter =
    rw (ow, o, g, pr, sr, a, og, pg, w, r) (wide-behind whole out plain layout script (λ none. some (w ∙ none)) (subst (λ (bytes : List ℕ). length bytes < length layout) r shorter) left)

pub wide-end : {whole out plain layout script out_gap gap word : List ℕ} → WideLeft whole out plain layout script
    → word ≡ word_in layout → gap ≡ gap_in script → out_gap ≡ out ++ gap → word ≡ [] → out_gap ≡ whole
wide-end {whole} {out} {plain} {layout} {script} left w g o none = o ∙ rw g (wide-none whole out plain layout script (sym w ∙ none) left)

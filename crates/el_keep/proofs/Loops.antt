-- What is written by bytes is what is written by items, and what the loop over words keeps.
use Rattle.std.proofs.Common.{◌≡◌, ℕ, suc, ◌+◌, ◌<◌, Bool, true, false, true≢false, List, [], ◌∷◌, ◌++◌, refl, sym, ap, ◌∙◌, append_assoc, arith, length, subst}
use Rattle.std.specs.Prelude.{◌==◌}
use Rattle.el_lex.specs.Reading.{Item, text, fit}
use Rattle.el_keep.specs.declared.seam.Seam.{Seam}
use Rattle.el_keep.specs.declared.seam.Seam.TheVariants.{Top}
use Rattle.el_keep.specs.declared.seam.Follow.TheVariants.{End}
use Rattle.el_keep.specs.Seams.{over_all, behind_word, follow_of}
use Rattle.el_keep.specs.Parts.{gap_in, word_in, rest_in}
use Rattle.el_keep.specs.Kept.{past_word, kept_from, kept}
use Rattle.el_keep.specs.Rendered.{rendered}
use Rattle.el_keep.specs.Texts.{at_word, kept_words, kept_text}
use Rattle.el_keep.proofs.Words.{gap_text, first_word, gap-run, word-is, rest-is, past_word-fits, no-word, parts-length}
use Rattle.el_keep.proofs.Gaps.{kept-ends, kept-goes}

-- ---- words

pub at-end : (word ended goes_on : List ℕ) → word ≡ [] → at_word word ended goes_on ≡ ended
at-end [] ended goes_on none = refl
at-end (byte ∷ word) ended goes_on none = let no : ⊥ = cc in absurd no

pub at-some : (word ended goes_on : List ℕ) → (word ≡ [] → ⊥) → at_word word ended goes_on ≡ goes_on
at-some [] ended goes_on some = absurd (some refl)
at-some (byte ∷ word) ended goes_on some = refl

-- ---- items

words-kept : (most : ℕ) (seam : Seam) (layout script : List Item) → length (text layout) < most → fit layout [] ≡ true → fit script [] ≡ true
    → kept_words most seam (text layout) (text script) ≡ text (kept_from seam layout script)
unfolding kept_words
words-kept Prim.Native.Nat.zero seam layout script less fits script_fits = absurd (omega (arith, less))
words-kept (suc most) seam layout script less fits script_fits =
    rw (rest-is layout fits, rest-is script script_fits, word-is layout fits, gap-run layout fits, gap-run script script_fits)
    (by (first_word layout) refl (λ (fewer : length (text (past_word layout)) < most).
    words-kept most (behind_word (over_all seam (gap_text layout))) (past_word layout) (past_word script) fewer (past_word-fits layout fits) (past_word-fits script script_fits)))
  where
    by : (word : List ℕ) → first_word layout ≡ word
        → (length (text (past_word layout)) < most
        → kept_words most (behind_word (over_all seam (gap_text layout))) (text (past_word layout)) (text (past_word script)) ≡ text (kept_from (behind_word (over_all seam (gap_text layout))) (past_word layout) (past_word script)))
        → at_word word (rendered (over_all seam (gap_text layout)) End (gap_text script))
        (rendered (over_all seam (gap_text layout)) (follow_of (first_word layout)) (gap_text script)
        ++ (first_word layout ++ kept_words most (behind_word (over_all seam (gap_text layout))) (text (past_word layout)) (text (past_word script))))
        ≡ text (kept_from seam layout script)
    by [] none later = kept-ends seam layout script (no-word layout none) script_fits
    by (byte ∷ word) some later =
        let shorter = parts-length layout in
        let here = ap (λ (bytes : List ℕ). length bytes) some in
        ap (λ (more : List ℕ). rendered (over_all seam (gap_text layout)) (follow_of (first_word layout)) (gap_text script) ++ (first_word layout ++ more))
        (later (omega (arith, less, shorter, here)))
        ∙ kept-goes seam layout script (λ none. let no : ⊥ = cc (some, none) in no) script_fits

pub text-kept : (layout script : List Item) → fit layout [] ≡ true → fit script [] ≡ true → kept_text (text layout) (text script) ≡ text (kept layout script)
unfolding kept_text
text-kept layout script fits script_fits = words-kept (suc (length (text layout))) Top layout script (omega arith) fits script_fits

-- ---- the loop

-- with so much written, all that is left of these texts is to be written
pub record Left (whole out layout script : List ℕ) (seam : Seam) : Type 0 where
  pub most : ℕ
  pub enough : length layout < most
  pub goes : out ++ kept_words most seam layout script ≡ whole

pub left-all : (layout script : List ℕ) → Left (kept_text layout script) [] layout script Top
unfolding kept_text
left-all layout script = record { most = suc (length layout); enough = omega arith; goes = refl }

-- a step of the words that are left
words-behind : (most : ℕ) (seam : Seam) (layout script : List ℕ) → (word_in layout ≡ [] → ⊥)
    → kept_words (suc most) seam layout script
    ≡ rendered (over_all seam (gap_in layout)) (follow_of (word_in layout)) (gap_in script)
    ++ (word_in layout ++ kept_words most (behind_word (over_all seam (gap_in layout))) (rest_in layout) (rest_in script))
unfolding kept_words
words-behind most seam layout script some = at-some (word_in layout) _ _ some

words-none : (most : ℕ) (seam : Seam) (layout script : List ℕ) → word_in layout ≡ [] → kept_words (suc most) seam layout script ≡ rendered (over_all seam (gap_in layout)) End (gap_in script)
unfolding kept_words
words-none most seam layout script none = at-end (word_in layout) _ _ none

-- the gap and the word are written
pub left-behind : (whole out layout script : List ℕ) (seam : Seam) → (word_in layout ≡ [] → ⊥) → length (rest_in layout) < length layout → Left whole out layout script seam
    → Left whole ((out ++ rendered (over_all seam (gap_in layout)) (follow_of (word_in layout)) (gap_in script)) ++ word_in layout) (rest_in layout) (rest_in script) (behind_word (over_all seam (gap_in layout)))
left-behind whole out layout script seam some shorter left = by left.most left.enough left.goes
  where
    by : (most : ℕ) → length layout < most → out ++ kept_words most seam layout script ≡ whole
        → Left whole ((out ++ rendered (over_all seam (gap_in layout)) (follow_of (word_in layout)) (gap_in script)) ++ word_in layout) (rest_in layout) (rest_in script) (behind_word (over_all seam (gap_in layout)))
    by Prim.Native.Nat.zero enough goes = absurd (omega (arith, enough))
    by (suc most) enough goes =
        let gap = rendered (over_all seam (gap_in layout)) (follow_of (word_in layout)) (gap_in script) in
        let behind = kept_words most (behind_word (over_all seam (gap_in layout))) (rest_in layout) (rest_in script) in
        record {
          most = most;
          enough = omega (arith, enough, shorter);
          goes = append_assoc (out ++ gap) (word_in layout) behind ∙ append_assoc out gap (word_in layout ++ behind)
              ∙ ap (λ (more : List ℕ). out ++ more) (sym (words-behind most seam layout script some)) ∙ goes;
        }

-- up to the end
pub left-none : (whole out layout script : List ℕ) (seam : Seam) → word_in layout ≡ [] → Left whole out layout script seam
    → out ++ rendered (over_all seam (gap_in layout)) End (gap_in script) ≡ whole
left-none whole out layout script seam none left = by left.most left.enough left.goes
  where
    by : (most : ℕ) → length layout < most → out ++ kept_words most seam layout script ≡ whole → out ++ rendered (over_all seam (gap_in layout)) End (gap_in script) ≡ whole
    by Prim.Native.Nat.zero enough goes = absurd (omega (arith, enough))
    by (suc most) enough goes = ap (λ (more : List ℕ). out ++ more) (sym (words-none most seam layout script none)) ∙ goes

-- the same by what the calls of a round say
pub left-round : {whole out layout script out_gap out_word gap word rest source_gap source_rest : List ℕ} {seam here behind : Seam} → Left whole out layout script seam
    → gap ≡ gap_in layout → word ≡ word_in layout → rest ≡ rest_in layout → source_gap ≡ gap_in script → source_rest ≡ rest_in script → here ≡ over_all seam gap
    → out_gap ≡ out ++ rendered here (follow_of word) source_gap → out_word ≡ out_gap ++ word → behind ≡ behind_word here → (word ≡ [] → ⊥) → length rest < length layout
    → Left whole out_word rest source_rest behind
left-round {whole} {out} {layout} {script} {out_gap} {out_word} {gap} {word} {rest} {source_gap} {source_rest} {seam} {here} {behind} left g w r sg sr h og ow b some shorter =
    rw (ow, og, b, h, g, w, r, sg, sr) (left-behind whole out layout script seam (λ none. some (w ∙ none)) (subst (λ (bytes : List ℕ). length bytes < length layout) r shorter) left)

pub left-end : {whole out layout script out_gap gap word source_gap : List ℕ} {seam here : Seam} → Left whole out layout script seam
    → gap ≡ gap_in layout → word ≡ word_in layout → source_gap ≡ gap_in script → here ≡ over_all seam gap → out_gap ≡ out ++ rendered here End source_gap → word ≡ [] → out_gap ≡ whole
left-end {whole} {out} {layout} {script} {out_gap} {gap} {word} {source_gap} {seam} {here} left g w sg h og none =
    og ∙ rw (h, g, sg) (left-none whole out layout script seam (sym w ∙ none) left)

-- a word has bytes or has none
pub no-bytes : (word : List ℕ) (empty : Bool) → empty ≡ (length word == 0) → empty ≡ true → word ≡ []
no-bytes [] empty is none = refl
no-bytes (byte ∷ word) empty is none = let no : ⊥ = grind (arith, is, none) in absurd no

pub some-bytes : (word : List ℕ) (empty : Bool) → empty ≡ (length word == 0) → empty ≡ false → word ≡ [] → ⊥
some-bytes [] empty is isnt none = true≢false (sym is ∙ isnt)
some-bytes (byte ∷ word) empty is isnt none = cc

pub rest-shorter : (gap word rest text : List ℕ) → (word ≡ [] → ⊥) → length gap + length word + length rest ≡ length text → length rest < length text
rest-shorter gap [] rest text some whole = absurd (some refl)
rest-shorter gap (byte ∷ word) rest text some whole = omega (arith, whole)

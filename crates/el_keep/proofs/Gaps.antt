-- What is written between two words, by bytes and by items.
use Rattle.std.proofs.Common.{◌≡◌, ℕ, true, false, List, [], ◌∷◌, ◌++◌, refl, sym, ap, ◌∙◌, arith}
use Rattle.std.specs.Prelude.{◌==◌}
use Rattle.std.proofs.lemmas.Bool.{and_parts}
use Rattle.std.proofs.lemmas.Grind.{flat_map-append}
use Rattle.el_lex.specs.Bytes.{is_over_or}
use Rattle.el_lex.specs.Pieces.{pieces_text}
use Rattle.el_lex.specs.Reading.{Item, Blank, Comment, Wordly, item_text, text, fit, is_comment}
use Rattle.el_keep.specs.declared.seam.Seam.{Seam}
use Rattle.el_keep.specs.declared.seam.Follow.{Follow}
use Rattle.el_keep.specs.declared.seam.Follow.TheVariants.{End}
use Rattle.el_keep.specs.declared.distance.Distance.{Distance}
use Rattle.el_keep.specs.declared.distance.Distance.TheVariants.{SameLine, BehindComment}
use Rattle.el_keep.specs.Seams.{over, over_all, behind_word, follow_of, further, broken, lead, last}
use Rattle.el_keep.specs.Kept.{blanks, gap_layout, past_word, kept_from}
use Rattle.el_keep.specs.Rendered.{rendered_in, rendered}
use Rattle.el_keep.proofs.Words.{fit-parts, gap_text, from_word, first_word, no_hash, comment-byte}

pub text-append : (one other : List Item) → text (one ++ other) ≡ text one ++ text other
text-append one other = flat_map-append item_text one other

pub text-blanks : (bytes : List ℕ) → text (blanks bytes) ≡ bytes
text-blanks [] = refl
text-blanks (byte ∷ bytes) = ap (λ (more : List ℕ). byte ∷ more) (text-blanks bytes)

-- whitespace before items
pub text-led : (bytes : List ℕ) (items : List Item) → text (blanks bytes ++ items) ≡ bytes ++ text items
text-led bytes items = text-append (blanks bytes) items ∙ ap (λ (front : List ℕ). front ++ text items) (text-blanks bytes)

-- ---- the gap of a script

-- a comment is written as it is
comment-rendered : (seam : Seam) (follow : Follow) (distance : Distance) (bytes tail : List ℕ) → is_comment bytes ≡ true
    → rendered_in true seam follow distance (bytes ++ tail) ≡ bytes ++ rendered_in true seam follow distance tail
comment-rendered seam follow distance [] tail is = refl
comment-rendered seam follow distance (byte ∷ bytes) tail is =
    let parts = comment-byte byte bytes is in
    rw parts.0 (ap (λ (more : List ℕ). byte ∷ more) (comment-rendered seam follow distance bytes tail parts.1))

-- a comment is over before a newline and at the end
comment-over : (seam : Seam) (follow : Follow) (distance : Distance) (items : List Item) → is_over_or (λ byte. byte == 10) (text items) ≡ true
    → rendered_in true seam follow distance (gap_text items) ≡ rendered_in false seam follow distance (gap_text items)
comment-over seam follow distance [] over = refl
comment-over seam follow distance (Blank byte ∷ items) over = let same : 10 ≡ byte = grind (arith, over) in rw (sym same) refl
comment-over seam follow distance (Comment bytes ∷ items) over = let no : ⊥ = cc in absurd no
comment-over seam follow distance (Wordly piece pieces ∷ items) over = refl

pub gap-rendered : (seam : Seam) (follow : Follow) (distance : Distance) (items : List Item) → fit items [] ≡ true
    → rendered_in false seam follow distance (gap_text items) ≡ text (gap_layout seam follow distance items)
gap-rendered seam follow distance [] fits = sym (text-blanks (last seam follow distance))
gap-rendered seam follow distance (Blank byte ∷ items) fits =
    let parts = fit-parts (Blank byte) items fits in
    rw (no_hash byte parts.0) (gap-rendered seam follow (further distance byte) items parts.1)
gap-rendered seam follow distance (Comment bytes ∷ items) fits =
    let parts = fit-parts (Comment bytes) items fits in
    let is = and_parts (is_comment bytes) (is_over_or (λ byte. byte == 10) (text items)) parts.0 in
    let behind = gap_layout (broken seam) follow BehindComment items in
    ap (λ (more : List ℕ). lead seam follow distance ++ (35 ∷ more)) (comment-rendered (broken seam) follow BehindComment bytes (gap_text items) is.0
    ∙ ap (λ (more : List ℕ). bytes ++ more) (comment-over (broken seam) follow BehindComment items is.1 ∙ gap-rendered (broken seam) follow BehindComment items parts.1))
    ∙ sym (text-led (lead seam follow distance) (Comment bytes ∷ behind))
gap-rendered seam follow distance (Wordly piece pieces ∷ items) fits = sym (text-blanks (last seam follow distance))

-- ---- the gap of a layout

over_all-append : (seam : Seam) (one other : List ℕ) → over_all seam (one ++ other) ≡ over_all (over_all seam one) other
over_all-append seam [] other = refl
over_all-append seam (byte ∷ one) other = over_all-append (over seam byte) one other

-- the layout goes on at its next word
pub kept-skips : (seam : Seam) (layout script : List Item) → kept_from seam layout script ≡ kept_from (over_all seam (gap_text layout)) (from_word layout) script
kept-skips seam [] script = refl
kept-skips seam (Blank byte ∷ layout) script = kept-skips (over seam byte) layout script
kept-skips seam (Comment bytes ∷ layout) script =
    kept-skips (over_all seam (35 ∷ bytes)) layout script
    ∙ ap (λ (s : Seam). kept_from s (from_word layout) script) (sym (over_all-append seam (35 ∷ bytes) (gap_text layout)))
kept-skips seam (Wordly piece pieces ∷ layout) script = refl

-- what is written up to the end, where the layout has no more words
pub kept-ends : (seam : Seam) (layout script : List Item) → from_word layout ≡ [] → fit script [] ≡ true
    → rendered (over_all seam (gap_text layout)) End (gap_text script) ≡ text (kept_from seam layout script)
kept-ends seam layout script none fits =
    gap-rendered (over_all seam (gap_text layout)) End SameLine script fits
    ∙ ap (λ (l : List Item). text (kept_from (over_all seam (gap_text layout)) l script)) (sym none)
    ∙ ap text (sym (kept-skips seam layout script))

-- what is written up to the next word of the layout, this word, and what is left
pub kept-goes : (seam : Seam) (layout script : List Item) → (first_word layout ≡ [] → ⊥) → fit script [] ≡ true
    → rendered (over_all seam (gap_text layout)) (follow_of (first_word layout)) (gap_text script)
    ++ (first_word layout ++ text (kept_from (behind_word (over_all seam (gap_text layout))) (past_word layout) (past_word script)))
    ≡ text (kept_from seam layout script)
kept-goes seam [] script some fits = absurd (some refl)
kept-goes seam (Blank byte ∷ layout) script some fits = kept-goes (over seam byte) layout script some fits
kept-goes seam (Comment bytes ∷ layout) script some fits =
    ap (λ (s : Seam). rendered s (follow_of (first_word layout)) (gap_text script) ++ (first_word layout ++ text (kept_from (behind_word s) (past_word layout) (past_word script))))
    (over_all-append seam (35 ∷ bytes) (gap_text layout))
    ∙ kept-goes (over_all seam (35 ∷ bytes)) layout script some fits
kept-goes seam (Wordly piece pieces ∷ layout) script some fits =
    let word = pieces_text (piece ∷ pieces) in
    let behind = kept_from (behind_word seam) layout (past_word script) in
    ap (λ (front : List ℕ). front ++ (word ++ text behind)) (gap-rendered seam (follow_of word) SameLine script fits)
    ∙ sym (text-append (gap_layout seam (follow_of word) SameLine script) (Wordly piece pieces ∷ behind))

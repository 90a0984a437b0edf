-- The comments of a kept layout are those of the script, each before the same token.
use Rattle.std.proofs.Common.{◌≡◌, ℕ, suc, List, [], ◌∷◌, ◌++◌, refl, sym, ap, ◌∙◌, arith, append_assoc, append-nil}
use Rattle.el_lex.specs.Pieces.{pieces_text}
use Rattle.el_lex.specs.Reading.{Item, Blank, Comment, Wordly}
use Rattle.el_keep.specs.declared.seam.Seam.{Seam}
use Rattle.el_keep.specs.declared.seam.Follow.{Follow}
use Rattle.el_keep.specs.declared.seam.Follow.TheVariants.{End}
use Rattle.el_keep.specs.declared.distance.Distance.{Distance}
use Rattle.el_keep.specs.declared.distance.Distance.TheVariants.{SameLine, BehindComment}
use Rattle.el_keep.specs.Seams.{over_all, behind_word, follow_of, further, broken, lead, last}
use Rattle.el_keep.specs.Comments.{comments_from, comments_of}
use Rattle.el_keep.specs.Kept.{blanks, gap_layout, past_word, kept_from}
use Rattle.el_keep.specs.Widened.{count_words}

-- the comments before the first word or the end
abbrev pub first_comments : (before : List (List ℕ)) → List Item → List (List ℕ)
first_comments before [] = before
first_comments before (Blank byte ∷ items) = first_comments before items
first_comments before (Comment bytes ∷ items) = first_comments (before ++ bytes ∷ []) items
first_comments before (Wordly piece pieces ∷ items) = before

-- whitespace has none
comments-led : (before : List (List ℕ)) (bytes : List ℕ) (items : List Item) → comments_from before (blanks bytes ++ items) ≡ comments_from before items
comments-led before [] items = refl
comments-led before (byte ∷ bytes) items = comments-led before bytes items

-- ---- in a script

comments-over : (before : List (List ℕ)) (items : List Item) → count_words items ≡ 0 → comments_from before items ≡ first_comments before items ∷ []
comments-over before [] none = refl
comments-over before (Blank byte ∷ items) none = comments-over before items none
comments-over before (Comment bytes ∷ items) none = comments-over (before ++ bytes ∷ []) items none
comments-over before (Wordly piece pieces ∷ items) none = let no : ⊥ = omega (arith, none) in absurd no

pub comments-parted : (before : List (List ℕ)) (items : List Item) (count : ℕ) → count_words items ≡ suc count
    → (comments_from before items ≡ first_comments before items ∷ comments_from [] (past_word items)) × (count_words (past_word items) ≡ count)
comments-parted before [] count some = let no : ⊥ = omega (arith, some) in absurd no
comments-parted before (Blank byte ∷ items) count some = comments-parted before items count some
comments-parted before (Comment bytes ∷ items) count some = comments-parted (before ++ bytes ∷ []) items count some
comments-parted before (Wordly piece pieces ∷ items) count some = (refl, omega (arith, some))

-- ---- in what is written

-- up to what stands behind a gap
comments-gap : (before : List (List ℕ)) (seam : Seam) (follow : Follow) (distance : Distance) (script behind : List Item) (more : List (List (List ℕ)))
    → ((now : List (List ℕ)) → comments_from now behind ≡ now ∷ more)
    → comments_from before (gap_layout seam follow distance script ++ behind) ≡ first_comments before script ∷ more
comments-gap before seam follow distance [] behind more is = comments-led before (last seam follow distance) behind ∙ is before
comments-gap before seam follow distance (Blank byte ∷ script) behind more is = comments-gap before seam follow (further distance byte) script behind more is
comments-gap before seam follow distance (Comment bytes ∷ script) behind more is =
    let gap = gap_layout (broken seam) follow BehindComment script in
    ap (comments_from before) (append_assoc (blanks (lead seam follow distance)) (Comment bytes ∷ gap) behind)
    ∙ comments-led before (lead seam follow distance) (Comment bytes ∷ (gap ++ behind))
    ∙ comments-gap (before ++ bytes ∷ []) (broken seam) follow BehindComment script behind more is
comments-gap before seam follow distance (Wordly piece pieces ∷ script) behind more is = comments-led before (last seam follow distance) behind ∙ is before

-- up to the end
comments-end : (before : List (List ℕ)) (seam : Seam) (follow : Follow) (distance : Distance) (script : List Item)
    → comments_from before (gap_layout seam follow distance script) ≡ first_comments before script ∷ []
comments-end before seam follow distance script =
    ap (comments_from before) (sym (append-nil (gap_layout seam follow distance script))) ∙ comments-gap before seam follow distance script [] [] (λ now. refl)

pub kept-comments : (seam : Seam) (layout script : List Item) → count_words layout ≡ count_words script → comments_of (kept_from seam layout script) ≡ comments_of script
kept-comments seam [] script same = comments-end [] seam End SameLine script ∙ sym (comments-over [] script (sym same))
kept-comments seam (Blank byte ∷ layout) script same = kept-comments (over_all seam (byte ∷ [])) layout script same
kept-comments seam (Comment bytes ∷ layout) script same = kept-comments (over_all seam (35 ∷ bytes)) layout script same
kept-comments seam (Wordly piece pieces ∷ layout) script same =
    let behind = kept_from (behind_word seam) layout (past_word script) in
    let parted = comments-parted [] script (count_words layout) (sym same) in
    comments-gap [] seam (follow_of (pieces_text (piece ∷ pieces))) SameLine script (Wordly piece pieces ∷ behind) (comments_of behind) (λ now. refl)
    ∙ ap (λ (more : List (List (List ℕ))). first_comments [] script ∷ more) (kept-comments (behind_word seam) layout (past_word script) (sym parted.1))
    ∙ sym parted.0

-- No two empty lines follow each other in a kept layout.
use Rattle.std.proofs.Common.{◌≡◌, ℕ, suc, true, List, [], ◌∷◌, ◌++◌, refl, sym, ap, ◌∙◌, append_assoc, append-nil}
use Rattle.el_lex.specs.Pieces.{pieces_text}
use Rattle.el_lex.specs.Reading.{Item, Blank, Comment, Wordly}
use Rattle.el_keep.specs.declared.seam.Seam.{Seam}
use Rattle.el_keep.specs.declared.seam.Seam.TheVariants.{Top, Within, Below}
use Rattle.el_keep.specs.declared.seam.Follow.{Follow}
use Rattle.el_keep.specs.declared.seam.Follow.TheVariants.{Word, Close, End}
use Rattle.el_keep.specs.declared.distance.Distance.{Distance}
use Rattle.el_keep.specs.declared.distance.Distance.TheVariants.{SameLine, BehindComment, NextLine, BlankLine}
use Rattle.el_keep.specs.Seams.{over_all, behind_word, follow_of, further, spaces, comment_indent, broken, line_start, lead, last}
use Rattle.el_keep.specs.Kept.{blanks, gap_layout, past_word, kept_from}
use Rattle.el_keep.specs.Laws.{has_few_breaks}

-- no newline is before what follows: a comment, a word, or nothing
abbrev Ends : List Item → Type 0
Ends behind = (breaks : ℕ) → has_few_breaks breaks behind ≡ true

few-one : (behind : List Item) (count : ℕ) → Ends behind → has_few_breaks 1 (blanks (spaces count) ++ behind) ≡ true
few-one behind Prim.Native.Nat.zero ends = ends 1
few-one behind (suc count) ends = few-one behind count ends

few-two : (behind : List Item) (count : ℕ) → Ends behind → has_few_breaks 2 (blanks (spaces count) ++ behind) ≡ true
few-two behind Prim.Native.Nat.zero ends = ends 2
few-two behind (suc count) ends = few-two behind count ends

few-line : (distance : Distance) (indent : ℕ) (behind : List Item) → Ends behind → has_few_breaks 0 (blanks (line_start distance indent) ++ behind) ≡ true
few-line BlankLine indent behind ends = few-two behind indent ends
few-line SameLine indent behind ends = few-one behind indent ends
few-line BehindComment indent behind ends = few-one behind indent ends
few-line NextLine indent behind ends = few-one behind indent ends

few-lead : (seam : Seam) (follow : Follow) (distance : Distance) (behind : List Item) → Ends behind → has_few_breaks 0 (blanks (lead seam follow distance) ++ behind) ≡ true
few-lead Top follow distance behind ends = ends 0
few-lead (Within indent) follow SameLine behind ends = ends 0
few-lead (Within indent) follow BehindComment behind ends = few-line BehindComment (comment_indent (Within indent) follow) behind ends
few-lead (Within indent) follow NextLine behind ends = few-line NextLine (comment_indent (Within indent) follow) behind ends
few-lead (Within indent) follow BlankLine behind ends = few-line BlankLine (comment_indent (Within indent) follow) behind ends
few-lead (Below indent) follow SameLine behind ends = ends 0
few-lead (Below indent) follow BehindComment behind ends = few-line BehindComment (comment_indent (Below indent) follow) behind ends
few-lead (Below indent) follow NextLine behind ends = few-line NextLine (comment_indent (Below indent) follow) behind ends
few-lead (Below indent) follow BlankLine behind ends = few-line BlankLine (comment_indent (Below indent) follow) behind ends

few-last : (seam : Seam) (follow : Follow) (distance : Distance) (behind : List Item) → Ends behind → has_few_breaks 0 (blanks (last seam follow distance) ++ behind) ≡ true
few-last Top follow distance behind ends = ends 0
few-last (Within indent) Word distance behind ends = ends 0
few-last (Within indent) Close distance behind ends = ends 0
few-last (Within indent) End distance behind ends = ends 1
few-last (Below indent) Word distance behind ends = few-line distance indent behind ends
few-last (Below indent) Close distance behind ends = few-line distance indent behind ends
few-last (Below indent) End distance behind ends = ends 1

few-gap : (seam : Seam) (follow : Follow) (distance : Distance) (script behind : List Item) → Ends behind → has_few_breaks 0 (gap_layout seam follow distance script ++ behind) ≡ true
few-gap seam follow distance [] behind ends = few-last seam follow distance behind ends
few-gap seam follow distance (Blank byte ∷ script) behind ends = few-gap seam follow (further distance byte) script behind ends
few-gap seam follow distance (Comment bytes ∷ script) behind ends =
    let gap = gap_layout (broken seam) follow BehindComment script in
    ap (has_few_breaks 0) (append_assoc (blanks (lead seam follow distance)) (Comment bytes ∷ gap) behind)
    ∙ few-lead seam follow distance (Comment bytes ∷ (gap ++ behind)) (λ breaks. few-gap (broken seam) follow BehindComment script behind ends)
few-gap seam follow distance (Wordly piece pieces ∷ script) behind ends = few-last seam follow distance behind ends

pub kept-few : (seam : Seam) (layout script : List Item) → has_few_breaks 0 (kept_from seam layout script) ≡ true
kept-few seam [] script = ap (has_few_breaks 0) (sym (append-nil (gap_layout seam End SameLine script))) ∙ few-gap seam End SameLine script [] (λ breaks. refl)
kept-few seam (Blank byte ∷ layout) script = kept-few (over_all seam (byte ∷ [])) layout script
kept-few seam (Comment bytes ∷ layout) script = kept-few (over_all seam (35 ∷ bytes)) layout script
kept-few seam (Wordly piece pieces ∷ layout) script =
    few-gap seam (follow_of (pieces_text (piece ∷ pieces))) SameLine script (Wordly piece pieces ∷ kept_from (behind_word seam) layout (past_word script))
    (λ breaks. kept-few (behind_word seam) layout (past_word script))

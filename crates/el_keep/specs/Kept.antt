-- A layout with the comments and the empty lines of a script.
use Rattle.std.specs.Prelude.{ℕ, List, [], ◌∷◌, ◌++◌, map}
use Rattle.el_lex.specs.Pieces.{pieces_text}
use Rattle.el_lex.specs.Reading.{Item, Blank, Comment, Wordly}
use Rattle.el_keep.specs.declared.seam.Seam.{Seam}
use Rattle.el_keep.specs.declared.seam.Seam.TheVariants.{Top}
use Rattle.el_keep.specs.declared.seam.Follow.{Follow}
use Rattle.el_keep.specs.declared.seam.Follow.TheVariants.{End}
use Rattle.el_keep.specs.declared.distance.Distance.{Distance}
use Rattle.el_keep.specs.declared.distance.Distance.TheVariants.{SameLine, BehindComment}
use Rattle.el_keep.specs.Seams.{over_all, behind_word, follow_of, further, broken, lead, last}

-- whitespace as items
abbrev pub blanks : List ℕ → List Item
blanks bytes = map Blank bytes

-- what is written between two words: the comments of the script up to its next word, each behind its lead
abbrev pub gap_layout : Seam → Follow → Distance → (script : List Item) → List Item
gap_layout seam follow distance [] = blanks (last seam follow distance)
gap_layout seam follow distance (Blank byte ∷ script) = gap_layout seam follow (further distance byte) script
gap_layout seam follow distance (Comment bytes ∷ script) = blanks (lead seam follow distance) ++ (Comment bytes ∷ gap_layout (broken seam) follow BehindComment script)
gap_layout seam follow distance (Wordly piece pieces ∷ script) = blanks (last seam follow distance)

-- what is left behind the next word
abbrev pub past_word : List Item → List Item
past_word [] = []
past_word (Blank byte ∷ script) = past_word script
past_word (Comment bytes ∷ script) = past_word script
past_word (Wordly piece pieces ∷ script) = script

-- the words of the layout, and between them what the script has there; a layout has no comments of its own
abbrev pub kept_from : Seam → (layout script : List Item) → List Item
kept_from seam [] script = gap_layout seam End SameLine script
kept_from seam (Blank byte ∷ layout) script = kept_from (over_all seam (byte ∷ [])) layout script
kept_from seam (Comment bytes ∷ layout) script = kept_from (over_all seam (35 ∷ bytes)) layout script
kept_from seam (Wordly piece pieces ∷ layout) script =
    gap_layout seam (follow_of (pieces_text (piece ∷ pieces))) SameLine script ++ (Wordly piece pieces ∷ kept_from (behind_word seam) layout (past_word script))

-- a whole layout with what a whole script has between its words
abbrev pub kept : (layout script : List Item) → List Item
kept layout script = kept_from Top layout script

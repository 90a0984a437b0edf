-- A family as a tree: each member below its parent.
use Rattle.std.specs.Prelude.{ℕ, suc, ◌+◌, ◌/◌, ◌%◌, Bool, false, ◌&&◌, not, ◌==◌, nat_le, List, [], ◌∷◌, ◌++◌, length, Option, None, Some, if◌then◌else◌, codes, flat_map}
use Rattle.std.specs.Fmt.{decimal}
use Rattle.el_layout.specs.Layout.{hexadecimal_digit}
use Rattle.el_family.specs.declared.member.Origin.{Origin}
use Rattle.el_family.specs.Processes.{Process, Run}
use Rattle.el_family.specs.Agreement.{events_in}
use Rattle.el_family.specs.Reports.{status_text}

-- ---- words

-- a byte that stands for itself within quotes: no control byte, quote (34) or backslash (92)
abbrev pub is_plain : (byte : ℕ) → Bool
is_plain byte = nat_le 32 byte && not (byte == 34) && not (byte == 92) && not (byte == 127)

-- a byte within quotes, as the language reads it
unfoldable pub byte_text : (byte : ℕ) → List ℕ
byte_text byte = if is_plain byte then byte ∷ [] else codes "\\0x" ++ hexadecimal_digit (byte / 16) ∷ hexadecimal_digit (byte % 16) ∷ []

-- a word in quotes, behind a space
abbrev pub word_text : (word : List ℕ) → List ℕ
word_text word = codes " \"" ++ flat_map byte_text word ++ codes "\""

-- so each of these words
abbrev pub words_text : (words : List (List ℕ)) → List ℕ
words_text [] = []
words_text (word ∷ words) = word_text word ++ words_text words

-- ---- lines

-- two spaces for each level
abbrev pub indent : (depth : ℕ) → List ℕ
indent Prim.Native.Nat.zero = []
indent (suc depth) = codes "  " ++ indent depth

-- how a run ended, and how many calls it made
unfoldable pub outcome_text : Option Run → List ℕ
outcome_text ran = codes "status " ++ status_text ran ++ codes " calls " ++ decimal (length (events_in ran)) ++ codes ":"

-- the line of a process: its outcome, and its words
unfoldable pub tree_line : (depth : ℕ) → Process → List ℕ
tree_line depth process = indent depth ++ outcome_text process.ran ++ words_text process.words ++ codes "\n"

-- the start that it comes from is the parent's
abbrev pub is_from : (parent : ℕ) → Option Origin → Bool
is_from parent None = false
is_from parent (Some origin) = origin.member == parent

-- the lines of a parent's children among later members, of which the first has this number; below each child those of its own
unfoldable pub lines_below : (parent depth number : ℕ) → (later : List Process) → List ℕ
lines_below parent depth number [] = []
lines_below parent depth number (process ∷ later) =
    (if is_from parent process.origin then tree_line depth process ++ lines_below number (depth + 1) (number + 1) later else []) ++ lines_below parent depth (number + 1) later

-- the line of the first member, and below it those of its children
abbrev pub tree_lines : List Process → List ℕ
tree_lines [] = []
tree_lines (process ∷ later) = tree_line 0 process ++ lines_below 0 1 1 later

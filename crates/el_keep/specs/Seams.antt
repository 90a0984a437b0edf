-- Where the words of a layout stand, and what is written around comments there.
use Rattle.std.specs.Prelude.{ℕ, zero, suc, ◌+◌, ◌==◌, List, [], ◌∷◌, if◌then◌else◌}
use Rattle.std.specs.Str.{bytes_eq}
use Rattle.el_keep.specs.declared.seam.Seam.{Seam}
use Rattle.el_keep.specs.declared.seam.Seam.TheVariants.{Top, Within, Below}
use Rattle.el_keep.specs.declared.seam.Follow.{Follow}
use Rattle.el_keep.specs.declared.seam.Follow.TheVariants.{Word, Close, End}
use Rattle.el_keep.specs.declared.distance.Distance.{Distance}
use Rattle.el_keep.specs.declared.distance.Distance.TheVariants.{SameLine, BehindComment, NextLine, BlankLine}

-- ---- from word to word in a layout

-- behind a byte (10 is a newline) between words
abbrev pub over : Seam → (byte : ℕ) → Seam
over Top byte = Top
over (Within indent) byte = if byte == 10 then Below 0 else Within indent
over (Below indent) byte = if byte == 10 then Below 0 else Below (indent + 1)

-- behind all bytes between two words
abbrev pub over_all : Seam → (gap : List ℕ) → Seam
over_all seam [] = seam
over_all seam (byte ∷ gap) = over_all (over seam byte) gap

-- behind a word: its line has one indentation
abbrev pub behind_word : Seam → Seam
behind_word Top = Within 0
behind_word (Within indent) = Within indent
behind_word (Below indent) = Within indent

-- a word of the layout that follows: `}` (125) or another
abbrev pub follow_of : (word : List ℕ) → Follow
follow_of word = if bytes_eq word (125 ∷ []) then Close else Word

-- ---- from comment to comment in a script

-- behind a byte that is no part of a comment
abbrev pub further : Distance → (byte : ℕ) → Distance
further SameLine byte = if byte == 10 then NextLine else SameLine
further BehindComment byte = if byte == 10 then NextLine else BehindComment
further NextLine byte = if byte == 10 then BlankLine else NextLine
further BlankLine byte = BlankLine

-- ---- what is written

-- so many spaces (32)
abbrev pub spaces : ℕ → List ℕ
spaces zero = []
spaces (suc count) = 32 ∷ spaces count

-- how far a line is indented that begins here: what goes on with a line is four spaces deeper
abbrev pub indent_of : Seam → ℕ
indent_of Top = 0
indent_of (Within indent) = indent + 4
indent_of (Below indent) = indent

-- a line for a comment: before `}` it is indented as the lines of the block are
abbrev pub comment_indent : Seam → Follow → ℕ
comment_indent seam Close = indent_of seam + 2
comment_indent seam _ = indent_of seam

-- behind a comment a line begins
abbrev pub broken : Seam → Seam
broken seam = Below (indent_of seam)

-- one line or two are ended, and the next one is begun
abbrev pub line_start : Distance → (indent : ℕ) → List ℕ
line_start BlankLine indent = 10 ∷ 10 ∷ spaces indent
line_start _ indent = 10 ∷ spaces indent

-- before a comment: it stays on its line, or has one of its own; of the empty lines before it one stays
abbrev pub lead : Seam → Follow → Distance → List ℕ
lead Top follow distance = []
lead seam follow SameLine = 32 ∷ []
lead seam follow distance = line_start distance (comment_indent seam follow)

-- before a word: as the layout has it, but that an empty line stays; and before the end
abbrev pub last : Seam → Follow → Distance → List ℕ
last Top follow distance = []
last seam End distance = 10 ∷ []
last (Within indent) follow distance = 32 ∷ []
last (Below indent) follow distance = line_start distance indent

-- How a script is called, as its first line says.
use Rattle.el_room.specs.Vocabulary.{filter, list_any, starts_with, slice_split, bytes_eq, Options, positionals_rule, Trouble, BadNumber}
use Rattle.std.specs.Prelude.{ℕ, nat_eq, nat_lt, Bool, true, false, not, ◌&&◌, ◌||◌, ◌==◌, ◌-◌, List, [], ◌∷◌, length, take, drop, Option, None, Some, unwrap_or, Result, Ok, Err, slice_index_or, codes, if◌then◌else◌}
use Rattle.std.specs.List.{ends_with}
use Rattle.el_check.specs.declared.params.Params.{Params}
use Rattle.el_check.specs.declared.params.Params.TheVariants.{Frame}
use Rattle.el_lint.specs.declared.line_fault.LineFault.{LineFault}
use Rattle.el_lint.specs.declared.line_fault.LineFault.TheVariants.{NotExecline, ByteOrderMark, CarriageReturn, SeveralWords, TakenWhole, BadOption, BadNumber as BadNumberOf, WordBehind}
use Rattle.el_lint.specs.declared.first_line.FirstLine.{FirstLine}
use Rattle.el_lint.specs.declared.first_line.FirstLine.TheVariants.{Absent, Calls, Refused}
use Rattle.el_lint.specs.declared.first_line.TheConstants.{FIRST_LINE}
use Rattle.el_lint.specs.Allowances.{is_blank, is_newline}
use Rattle.el_lint.specs.Modes.{Call, called}

-- ---- the words of a line

-- A piece of a line is a word if it isn't empty and has no NUL.
abbrev pub is_word : (piece : List ℕ) → Bool
is_word piece = not (length piece == 0) && not (list_any (λ byte. byte == 0) piece)

-- The words of a text. Blanks stand between them.
abbrev pub words_in : (text : List ℕ) → List (List ℕ)
words_in text = filter is_word (slice_split is_blank text)

-- The words of a line that begins with `#!`. Any other line has none.
abbrev pub words_of : (line : List ℕ) → List (List ℕ)
words_of line = if starts_with nat_eq line (codes "#!") then words_in (drop 2 line) else []

-- ---- what these words say

-- The options of execlineb in a first line.
abbrev pub line_options : Options
line_options = record { letters = FIRST_LINE.opts; groups = codes "qwW" ∷ codes "PSs" ∷ []; rule = positionals_rule }

-- After the options the script's file must follow, which the system adds.
abbrev pub with_rest : (mode : Option Params) → (rest : List (List ℕ)) → FirstLine
with_rest mode [] = Calls (unwrap_or mode Frame)
with_rest mode (word ∷ rest) = Refused WordBehind

-- Why options can't be read.
abbrev pub fault_by : Trouble → LineFault
fault_by BadNumber = BadNumberOf
fault_by trouble = BadOption

-- What is read of a call.
abbrev pub call_read : Result Call Trouble → FirstLine
call_read (Ok call) = with_rest call.mode call.rest
call_read (Err trouble) = Refused (fault_by trouble)

-- What a call of execlineb says. The first word is its name.
abbrev pub call_said : (words : List (List ℕ)) → FirstLine
call_said words = call_read (called line_options words)

-- The path of execlineb, and what follows it. The system passes all that as one word, so that there may be one alone.
abbrev pub said_directly : (words : List (List ℕ)) → FirstLine
said_directly words = if nat_lt 2 (length words) then Refused SeveralWords else call_said words

-- The word names execlineb, by a path or without one.
unfoldable pub names_execlineb : (word : List ℕ) → Bool
names_execlineb word = bytes_eq word (codes "execlineb") || ends_with nat_eq word (codes "/execlineb")

-- The word names env.
unfoldable pub names_env : (word : List ℕ) → Bool
names_env word = bytes_eq word (codes "env") || ends_with nat_eq word (codes "/env")

-- By this word env takes apart what it is given.
unfoldable pub takes_apart : (word : List ℕ) → Bool
takes_apart word = starts_with nat_eq word (codes "-S") || starts_with nat_eq word (codes "-iS") || starts_with nat_eq word (codes "-vS")

-- By this word env starts execlineb: it names it, also where `-S` stands in the same word.
unfoldable pub starts_execlineb : (word : List ℕ) → Bool
starts_execlineb word = names_execlineb word || ends_with nat_eq word (codes "Sexeclineb")

-- The words from that one on.
abbrev pub from_execlineb : (words : List (List ℕ)) → List (List ℕ)
from_execlineb [] = []
from_execlineb (word ∷ words) = if starts_execlineb word then word ∷ words else from_execlineb words

-- What env starts, by those words. If it doesn't take them apart, they are one name.
abbrev pub started : (is_apart : Bool) → (words : List (List ℕ)) → FirstLine
started is_apart words =
    if length words == 0 then Refused NotExecline
    else if not is_apart && nat_lt 1 (length words) then Refused TakenWhole
    else call_said words

-- The first of these words makes env take them apart.
abbrev pub is_apart : (words : List (List ℕ)) → Bool
is_apart words = not (length words == 0) && takes_apart (slice_index_or words 0 [])

-- The words after the path of env.
abbrev pub said_by_env : (words : List (List ℕ)) → FirstLine
said_by_env words = started (is_apart words) (from_execlineb words)

-- The words of a line.
abbrev pub said : (words : List (List ℕ)) → FirstLine
said [] = Absent
said (path ∷ words) =
    if names_execlineb path then said_directly (path ∷ words)
    else if names_env path then said_by_env words
    else Refused NotExecline

-- ---- the first bytes of a script

-- The fault names execlineb.
abbrev pub is_of_execline : LineFault → Bool
is_of_execline NotExecline = false
is_of_execline fault = true

-- The line names execlineb.
abbrev pub names_itself : FirstLine → Bool
names_itself Absent = false
names_itself (Calls params) = true
names_itself (Refused fault) = is_of_execline fault

-- If a carriage return follows that, it is a part of the last word.
abbrev pub returned : FirstLine → FirstLine
returned line = if names_itself line then Refused CarriageReturn else line

-- A line, which a carriage return (13) may end.
abbrev pub line_said : (line : List ℕ) → FirstLine
line_said line = if ends_with nat_eq line (13 ∷ []) then returned (said (words_of (take (length line - 1) line))) else said (words_of line)

-- The first line of a text.
abbrev pub unmarked : (text : List ℕ) → FirstLine
unmarked text = line_said (slice_index_or (slice_split is_newline text) 0 [])

-- If a byte order mark stands before another program's line, that line counts.
abbrev pub marked_fault : LineFault → LineFault
marked_fault NotExecline = NotExecline
marked_fault fault = ByteOrderMark

-- If a byte order mark stands before that, it is a part of the first word.
abbrev pub marked : FirstLine → FirstLine
marked (Refused fault) = Refused (marked_fault fault)
marked line = Refused ByteOrderMark

-- What a script's first line says. A byte order mark has the bytes 239, 187 and 191.
abbrev pub first_line : (script : List ℕ) → FirstLine
first_line script = if starts_with nat_eq script (239 ∷ 187 ∷ 191 ∷ []) then marked (unmarked (drop 3 script)) else unmarked script

-- ---- what follows from it

-- How the script is called despite a fault. An option of ellint counts before the line, but no option helps against a byte order mark.
abbrev pub refused_by : LineFault → (mode : Option Params) → Result Params LineFault
refused_by ByteOrderMark mode = Err ByteOrderMark
refused_by fault (Some params) = Ok params
refused_by fault None = Err fault

-- How the script is called, by an option of ellint or else by the line.
abbrev pub params_of : FirstLine → (mode : Option Params) → Result Params LineFault
params_of Absent mode = Ok (unwrap_or mode Frame)
params_of (Calls params) mode = Ok (unwrap_or mode params)
params_of (Refused fault) mode = refused_by fault mode

-- How a tool comes by its script: it stands in a word, or is read from a file.
use Rattle.el_room.specs.Vocabulary.{Fault, Handle, open_act, read_act, close_act, gives, takes, and_then, and_go_on, State, Task, Spent, Failed, refused}
use Rattle.std.specs.Prelude.{ℕ, suc, nat_lt, List, [], length, Option, None, Some, Result, Ok, Err, if◌then◌else◌}
use Rattle.el_lex.specs.declared.lexer.TheConstants.{MAX_SCRIPT}
use Rattle.el_world.specs.declared.event.Mode.TheVariants.{Read as ForReading}
use Rattle.el_proc.specs.Inputs.{after_read}
use Rattle.el_app.specs.declared.asked.Source.{Source}
use Rattle.el_app.specs.declared.asked.Source.TheVariants.{Inline, File}

-- Behind these bytes the file is read on, up to its end or past the limit of a script, with a unit before each read. At most so
-- many reads are left: each gives a byte or is the last one.
unfoldable pub reading : (reads : ℕ) → State → Handle → (before : List ℕ) → Task (Option (List ℕ))
reading Prim.Native.Nat.zero state handle before = gives (Some before)
reading (suc reads) state handle before =
    if nat_lt MAX_SCRIPT (length before) then gives (Some before)
    else takes (Spent state) (and_go_on (read_act handle) (after_read (λ read. reading reads state handle read) before))

-- all of it is read; none where a read fails
unfoldable pub whole_file : State → Handle → Task (Option (List ℕ))
whole_file state handle = reading (suc MAX_SCRIPT) state handle []

-- a failed read is complained of under the tool's name
abbrev pub unless_failed : (name : List ℕ) → State → Option (List ℕ) → Task (List ℕ)
unless_failed name state (Some script) = gives script
unless_failed name state None = refused state name Failed

-- the handle is closed, and then a failed read is complained of
abbrev pub after_reads : (name : List ℕ) → State → Handle → Option (List ℕ) → Task (List ℕ)
after_reads name state handle read = and_go_on (close_act handle) (λ _. unless_failed name state read)

-- an open file is read and closed
unfoldable pub opened_script : (name : List ℕ) → State → Handle → Task (List ℕ)
opened_script name state handle = and_then (whole_file state handle) (after_reads name state handle)

-- the file is read and closed; an open that failed is complained of under the tool's name
abbrev pub after_open : (name : List ℕ) → State → Result Handle Fault → Task (List ℕ)
after_open name state (Ok handle) = opened_script name state handle
after_open name state (Err fault) = refused state name Failed

-- the script in a file, which is opened for reading from the process's directory
unfoldable pub file_script : (name : List ℕ) → State → (path : List ℕ) → Task (List ℕ)
file_script name state path = and_go_on (open_act state.dir path ForReading) (after_open name state)

-- the script stands in a word, or is read from a file by the tool with this name
abbrev pub script_from : (name : List ℕ) → State → Source → Task (List ℕ)
script_from name state (Inline script) = gives script
script_from name state (File path) = file_script name state path

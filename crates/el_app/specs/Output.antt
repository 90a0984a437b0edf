-- What a tool writes to its output.
use Rattle.el_room.specs.Vocabulary.{Fault, Handle, write_act, ends, and_go_on, State, Task, Status, Failed, trouble_status}
use Rattle.std.specs.Prelude.{ℕ, List, Result, Ok, Err}

-- the process's own output, which number 1 holds at its start
abbrev pub output : Handle
output = record { number = 1 }

-- the process ends with the code, or with that of a failed call where the write failed
abbrev pub after_output : State → (code : ℕ) → Result (Unit {0}) Fault → Task ⊥
after_output state code (Ok done) = ends (Status code state)
after_output state code (Err fault) = ends (Status (trouble_status Failed) state)

-- the text is written at once, and the process ends with this status; or, where it can't be written, as behind a failed call, but without
-- a message
unfoldable pub put_out : State → (text : List ℕ) → (code : ℕ) → Task ⊥
put_out state text code = and_go_on (write_act output text) (after_output state code)

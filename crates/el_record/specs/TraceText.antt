-- The text of a trace: each record before the bytes that follow it.
use Rattle.std.specs.Prelude.{ℕ, ◌∷◌, List, [], length, Option, Some, None, Result, Ok, Err}
use Rattle.std.specs.FinMap as map
use Rattle.el_env.specs.Vars.{Vars}
use Rattle.el_world.specs.declared.event.Event.{Event}
use Rattle.el_world.specs.declared.event.Event.TheVariants.{Start, Wait, Opened, Pipe, Feed, Read, Write, Close, Enter}
use Rattle.el_world.specs.declared.event.Handle.{Handle}
use Rattle.el_world.specs.declared.event.PipeEnds.{PipeEnds}
use Rattle.el_world.specs.declared.event.Mode.{Mode}
use Rattle.el_world.specs.declared.event.Mode.TheVariants as mode
use Rattle.el_world.specs.declared.event.Pid.{Pid}
use Rattle.el_world.specs.declared.event.Ended.{Ended}
use Rattle.el_world.specs.declared.event.Ended.TheVariants.{Exited, Killed}
use Rattle.el_world.specs.declared.event.Fault.{Fault}
use Rattle.el_world.specs.declared.event.StartFault.{StartFault}
use Rattle.el_world.specs.declared.event.StartFault.TheVariants.{NotFound, NotStartable, Failed as StartFailed, NoMemory as NoStartMemory}
use Rattle.el_record.specs.Fields.{number_before, bytes_before}
use Rattle.el_record.specs.declared.trace.RunEnd.{RunEnd}
use Rattle.el_record.specs.declared.trace.RunEnd.TheVariants.{Status, Spent}

-- ---- parts

-- a handle is its number
abbrev pub handle_before : Handle → List ℕ → List ℕ
handle_before handle rest = number_before handle.number rest

-- an end of a started process: `-` (45) for none
abbrev pub end_before : Option Handle → List ℕ → List ℕ
end_before None rest = 45 ∷ rest
end_before (Some handle) rest = handle_before handle rest

-- such ends, one behind the other
abbrev pub ends_before : List (Option Handle) → List ℕ → List ℕ
ends_before [] rest = rest
ends_before (end ∷ ends) rest = end_before end (ends_before ends rest)

-- words, one behind the other
abbrev pub each_before : List (List ℕ) → List ℕ → List ℕ
each_before [] rest = rest
each_before (word ∷ words) rest = bytes_before word (each_before words rest)

-- names and their values, one behind the other
abbrev pub pairs_before : List (List ℕ × List ℕ) → List ℕ → List ℕ
pairs_before [] rest = rest
pairs_before (pair ∷ pairs) rest = bytes_before pair.0 (bytes_before pair.1 (pairs_before pairs rest))

-- how many words there are, and the words
abbrev pub words_before : List (List ℕ) → List ℕ → List ℕ
words_before words rest = number_before (length words) (each_before words rest)

-- how many variables there are, and the variables in rising order of their names
abbrev pub env_before : Vars → List ℕ → List ℕ
env_before env rest = number_before (length (map.entries env)) (pairs_before (map.entries env) rest)

-- one of `r w u a c x`
abbrev pub mode_letter : Mode → ℕ
mode_letter mode.Read = 114
mode_letter mode.Write = 119
mode_letter mode.Update = 117
mode_letter mode.Append = 97
mode_letter mode.AppendOld = 99
mode_letter mode.Create = 120

-- ---- answers

-- `P` (80) and the process, or why there is none: `n`, `x` or `f`
abbrev pub start_answer_before : Result Pid StartFault → List ℕ → List ℕ
start_answer_before (Ok pid) rest = 80 ∷ number_before pid.number rest
start_answer_before (Err NotFound) rest = 110 ∷ rest
start_answer_before (Err NotStartable) rest = 120 ∷ rest
start_answer_before (Err StartFailed) rest = 102 ∷ rest
start_answer_before (Err NoStartMemory) rest = 102 ∷ rest

-- an answer that goes well, or `f` (102)
abbrev pub or_failed_before : {T : Type 0} → (T → List ℕ → List ℕ) → Result T Fault → List ℕ → List ℕ
or_failed_before before (Ok value) rest = before value rest
or_failed_before before (Err fault) rest = 102 ∷ rest

-- `E` (69) and the status, or `K` (75) and the signal
abbrev pub ended_before : Ended → List ℕ → List ℕ
ended_before (Exited code) rest = 69 ∷ number_before code rest
ended_before (Killed signal) rest = 75 ∷ number_before signal rest

-- `H` (72) and the handle
abbrev pub given_before : Handle → List ℕ → List ℕ
given_before handle rest = 72 ∷ handle_before handle rest

-- `H` and both ends
abbrev pub pipe_before : PipeEnds → List ℕ → List ℕ
pipe_before ends rest = 72 ∷ handle_before ends.reader (handle_before ends.writer rest)

-- `B` (66) and the bytes
abbrev pub found_before : List ℕ → List ℕ → List ℕ
found_before bytes rest = 66 ∷ bytes_before bytes rest

-- `k` (107)
abbrev pub done_before : Unit {0} → List ℕ → List ℕ
done_before done rest = 107 ∷ rest

-- ---- records

-- an event: its letter, of `S W O P F R T C D`; its arguments; its answer; and a newline (10)
abbrev pub event_before : Event → List ℕ → List ℕ
event_before (Start words env dir ends answer) rest = 83 ∷ words_before words (env_before env (bytes_before dir (ends_before ends (start_answer_before answer (10 ∷ rest)))))
event_before (Wait pid answer) rest = 87 ∷ number_before pid.number (or_failed_before ended_before answer (10 ∷ rest))
event_before (Opened dir path opened answer) rest = 79 ∷ bytes_before dir (bytes_before path (mode_letter opened ∷ or_failed_before given_before answer (10 ∷ rest)))
event_before (Pipe answer) rest = 80 ∷ or_failed_before pipe_before answer (10 ∷ rest)
event_before (Feed bytes answer) rest = 70 ∷ bytes_before bytes (or_failed_before given_before answer (10 ∷ rest))
event_before (Read handle answer) rest = 82 ∷ handle_before handle (or_failed_before found_before answer (10 ∷ rest))
event_before (Write handle bytes answer) rest = 84 ∷ handle_before handle (bytes_before bytes (or_failed_before done_before answer (10 ∷ rest)))
event_before (Close handle) rest = 67 ∷ handle_before handle (10 ∷ rest)
event_before (Enter dir path answer) rest = 68 ∷ bytes_before dir (bytes_before path (or_failed_before found_before answer (10 ∷ rest)))

-- the events of a log
abbrev pub events_before : List Event → List ℕ → List ℕ
events_before [] rest = rest
events_before (event ∷ events) rest = event_before event (events_before events rest)

-- the end: `Zs` and the status, or `Zl`, and a newline
abbrev pub run_end_before : RunEnd → List ℕ → List ℕ
run_end_before (Status code) rest = 90 ∷ 115 ∷ number_before code (10 ∷ rest)
run_end_before Spent rest = 90 ∷ 108 ∷ 10 ∷ rest

-- a whole trace: its events, and its end as the last record
abbrev pub trace_text : List Event → RunEnd → List ℕ
trace_text events end = events_before events (run_end_before end [])

-- The calls of a world, their answers and their events.
use Rattle.std.specs.Prelude.{ℕ, Bool, false, List, [], ◌∷◌, Option, None, Some, Result}
use Rattle.std.specs.List.{list_any}
use Rattle.el_env.specs.Vars.{Vars}
use Rattle.el_world.specs.declared.event.Event.{Event}
use Rattle.el_world.specs.declared.event.Event.TheVariants.{Start, Wait, Opened, Pipe, Feed, Read, Write, Close, Enter}
use Rattle.el_world.specs.declared.event.Handle.{Handle}
use Rattle.el_world.specs.declared.event.PipeEnds.{PipeEnds}
use Rattle.el_world.specs.declared.event.Mode.{Mode}
use Rattle.el_world.specs.declared.event.Pid.{Pid}
use Rattle.el_world.specs.declared.event.Ended.{Ended}
use Rattle.el_world.specs.declared.event.Fault.{Fault}
use Rattle.el_world.specs.declared.event.StartFault.{StartFault}
use Rattle.el_world.specs.World.{is_start_failed, is_failed}

-- a call, with its arguments
pub data Call : Type 0 where
  start : (words : List (List ℕ)) → Vars → (dir : List ℕ) → (ends : List (Option Handle)) → Call
  wait : Pid → Call
  open_file : (dir path : List ℕ) → Mode → Call
  pipe : Call
  feed : (bytes : List ℕ) → Call
  read : Handle → Call
  write : Handle → (bytes : List ℕ) → Call
  close : Handle → Call
  enter : (dir path : List ℕ) → Call

-- what a call may answer
abbrev pub AnswerOf : Call → Type 0
AnswerOf (start words env dir ends) = Result Pid StartFault
AnswerOf (wait pid) = Result Ended Fault
AnswerOf (open_file dir path mode) = Result Handle Fault
AnswerOf pipe = Result PipeEnds Fault
AnswerOf (feed bytes) = Result Handle Fault
AnswerOf (read handle) = Result (List ℕ) Fault
AnswerOf (write handle bytes) = Result (Unit {0}) Fault
AnswerOf (close handle) = Unit {0}
AnswerOf (enter dir path) = Result (List ℕ) Fault

-- the event of a call that was answered so
abbrev pub event_of : (call : Call) → AnswerOf call → Event
event_of (start words env dir ends) answer = Start words env dir ends answer
event_of (wait pid) answer = Wait pid answer
event_of (open_file dir path mode) answer = Opened dir path mode answer
event_of pipe answer = Pipe answer
event_of (feed bytes) answer = Feed bytes answer
event_of (read handle) answer = Read handle answer
event_of (write handle bytes) answer = Write handle bytes answer
event_of (close handle) answer = Close handle
event_of (enter dir path) answer = Enter dir path answer

-- the call of an event
abbrev pub call_of : Event → Call
call_of (Start words env dir ends answer) = start words env dir ends
call_of (Wait pid answer) = wait pid
call_of (Opened dir path mode answer) = open_file dir path mode
call_of (Pipe answer) = pipe
call_of (Feed bytes answer) = feed bytes
call_of (Read handle answer) = read handle
call_of (Write handle bytes answer) = write handle bytes
call_of (Close handle) = close handle
call_of (Enter dir path answer) = enter dir path

-- an answer, with the kind of its call; a close has none
pub data Found : Type 0 where
  start_answer : Result Pid StartFault → Found
  wait_answer : Result Ended Fault → Found
  open_answer : Result Handle Fault → Found
  pipe_answer : Result PipeEnds Fault → Found
  feed_answer : Result Handle Fault → Found
  read_answer : Result (List ℕ) Fault → Found
  write_answer : Result (Unit {0}) Fault → Found
  enter_answer : Result (List ℕ) Fault → Found

-- the answers in events
abbrev pub found_in : List Event → List Found
found_in [] = []
found_in (Start words env dir ends answer ∷ events) = start_answer answer ∷ found_in events
found_in (Wait pid answer ∷ events) = wait_answer answer ∷ found_in events
found_in (Opened dir path mode answer ∷ events) = open_answer answer ∷ found_in events
found_in (Pipe answer ∷ events) = pipe_answer answer ∷ found_in events
found_in (Feed bytes answer ∷ events) = feed_answer answer ∷ found_in events
found_in (Read handle answer ∷ events) = read_answer answer ∷ found_in events
found_in (Write handle bytes answer ∷ events) = write_answer answer ∷ found_in events
found_in (Close handle ∷ events) = found_in events
found_in (Enter dir path answer ∷ events) = enter_answer answer ∷ found_in events

-- the first answer of a list where it is of the call's kind, and what is left behind it
abbrev pub taken : (call : Call) → List Found → Option (AnswerOf call × List Found)
taken (start words env dir ends) (start_answer answer ∷ found) = Some (answer, found)
taken (wait pid) (wait_answer answer ∷ found) = Some (answer, found)
taken (open_file dir path mode) (open_answer answer ∷ found) = Some (answer, found)
taken pipe (pipe_answer answer ∷ found) = Some (answer, found)
taken (feed bytes) (feed_answer answer ∷ found) = Some (answer, found)
taken (read handle) (read_answer answer ∷ found) = Some (answer, found)
taken (write handle bytes) (write_answer answer ∷ found) = Some (answer, found)
taken (close handle) found = Some (tt, found)
taken (enter dir path) (enter_answer answer ∷ found) = Some (answer, found)
taken call found = None

-- a call that failed
abbrev pub is_fault : Event → Bool
is_fault (Start words env dir ends answer) = is_start_failed answer
is_fault (Wait pid answer) = is_failed answer
is_fault (Opened dir path mode answer) = is_failed answer
is_fault (Pipe answer) = is_failed answer
is_fault (Feed bytes answer) = is_failed answer
is_fault (Read handle answer) = is_failed answer
is_fault (Write handle bytes answer) = is_failed answer
is_fault (Close handle) = false
is_fault (Enter dir path answer) = is_failed answer

-- some call failed
abbrev pub has_fault : List Event → Bool
has_fault events = list_any is_fault events

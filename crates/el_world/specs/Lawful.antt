-- Lawful events: those that a world may tell.
use Rattle.std.specs.Prelude.{◌≡◌, ℕ, Bool, true, false, List, length, nat_le, Option, Result, Ok, Err, IfSome}
use Rattle.std.specs.List.{list_all}
use Rattle.el_world.specs.declared.event.Event.{Event}
use Rattle.el_world.specs.declared.event.Event.TheVariants.{Start, Wait, Opened, Pipe, Feed, Read, Write, Close, Enter}
use Rattle.el_world.specs.declared.event.Handle.{Handle}
use Rattle.el_world.specs.declared.event.Pid.{Pid}
use Rattle.el_world.specs.declared.event.Fault.{Fault}
use Rattle.el_world.specs.declared.event.Fault.TheVariants.{Failed, NoMemory}
use Rattle.el_world.specs.declared.event.StartFault.{StartFault}
use Rattle.el_world.specs.declared.event.StartFault.TheVariants.{NotFound, NotStartable, Failed as StartFailed, NoMemory as NoStartMemory}
use Rattle.el_world.specs.declared.event.TheConstants.{MAX_PIECE}
use Rattle.el_world.specs.World.{Seen, extended, told_or_lost, is_wait_status}
use Rattle.el_world.specs.Calls.{Call, AnswerOf, event_of}
use Rattle.el_world.specs.Handles.{Rising, are_fresh, given_by}

-- a started process, or why there is none; want of memory is no answer
abbrev pub is_start_answer : Result Pid StartFault → Bool
is_start_answer (Ok pid) = true
is_start_answer (Err NotFound) = true
is_start_answer (Err NotStartable) = true
is_start_answer (Err StartFailed) = true
is_start_answer (Err NoStartMemory) = false

-- a value that passes a test, or a failure; want of memory is no answer
abbrev pub is_answer : {T : Type 0} → (T → Bool) → Result T Fault → Bool
is_answer test (Ok value) = test value
is_answer test (Err Failed) = true
is_answer test (Err NoMemory) = false

-- what one read may give
abbrev pub is_piece : List ℕ → Bool
is_piece bytes = nat_le (length bytes) MAX_PIECE

-- the call was answered, with a signal and a piece in their range
abbrev pub is_lawful : Event → Bool
is_lawful (Start words env dir ends answer) = is_start_answer answer
is_lawful (Wait pid answer) = is_answer is_wait_status answer
is_lawful (Opened dir path mode answer) = is_answer (λ handle. true) answer
is_lawful (Pipe answer) = is_answer (λ ends. true) answer
is_lawful (Feed bytes answer) = is_answer (λ handle. true) answer
is_lawful (Read handle answer) = is_answer is_piece answer
is_lawful (Write handle bytes answer) = is_answer (λ done. true) answer
is_lawful (Close handle) = true
is_lawful (Enter dir path answer) = is_answer (λ dir. true) answer

-- all calls were answered so
abbrev pub are_lawful : List Event → Bool
are_lawful events = list_all is_lawful events

-- A call whose answer takes memory added its event. Where it had no memory, it added none, or its event with the lawful value that came.
pub record TellsOrLoses {T : Type 0} (old new : Seen) (event : Result T Fault → Event) (answer : Result T Fault) : Type 0 where
  pub lost : Option T
  pub told : new.log ≡ extended old.log (told_or_lost event answer lost)
  pub lawful : IfSome lost (λ value. is_lawful (event (Ok value)) ≡ true)

-- while these are held a world may answer so: it is lawful, and given handles are none of the process's own, rise, and are fresh
pub record MayAnswer (held : List Handle) (call : Call) (answer : AnswerOf call) : Type 0 where
  pub lawful : is_lawful (event_of call answer) ≡ true
  pub next : ℕ
  pub rising : Rising 0 (given_by (event_of call answer)) next
  pub fresh : are_fresh held (given_by (event_of call answer)) ≡ true

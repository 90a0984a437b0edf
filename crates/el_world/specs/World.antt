-- What a world shows of its calls.
use Rattle.std.specs.Prelude.{ℕ, ◌+◌, ◌-◌, ◌^◌, ◌≤◌, ◌<◌, min, Bool, true, false, ◌&&◌, nat_lt, List, [], ◌∷◌, ◌++◌, Option, None, Some, Result, Ok, Err, IsErrOf}
use Rattle.el_env.specs.Vars.{Vars}
use Rattle.el_world.specs.declared.answer.Answer.{Answer}
use Rattle.el_world.specs.declared.event.Event.{Event}
use Rattle.el_world.specs.declared.event.Event.TheVariants.{Start, Wait, Opened, Pipe, Feed, Write}
use Rattle.el_world.specs.declared.event.Handle.{Handle}
use Rattle.el_world.specs.declared.event.PipeEnds.{PipeEnds}
use Rattle.el_world.specs.declared.event.Mode.{Mode}
use Rattle.el_world.specs.declared.event.Pid.{Pid}
use Rattle.el_world.specs.declared.event.Ended.{Ended}
use Rattle.el_world.specs.declared.event.Fault.{Fault}
use Rattle.el_world.specs.declared.event.StartFault.{StartFault}
use Rattle.el_world.specs.declared.event.Ended.TheVariants.{Exited, Killed}
use Rattle.el_world.specs.declared.event.Fault.TheVariants.{Failed, NoMemory}
use Rattle.el_world.specs.declared.event.StartFault.TheVariants.{NotFound, NotStartable, Failed as StartFailed, NoMemory as NoStartMemory}

-- what a world was made of: nothing is told of it; another world as it was seen then, to which it passes its calls on; or a
-- list of answers
pub data Origin : Type 0 where
  none : Origin
  past : (log : Option (List Event)) → (faults : ℕ) → (held : List Handle) → (next : ℕ) → (origin : Origin) → Origin
  answering : List Answer → Origin

-- a world as its callers see it: the events so far, where it tells them; how many calls have failed; the handles that it
-- gave and that aren't closed, in the order in which it gave them; the next number, which all later handles reach; and
-- what it was made of, which no call changes
pub record Seen : Type 0 where
  pub log : Option (List Event)
  pub faults : ℕ
  pub held : List Handle
  pub next : ℕ
  pub origin : Origin

-- a log with these events behind, where it is told
unfoldable pub extended : Option (List Event) → List Event → Option (List Event)
extended None added = None
extended (Some events) added = Some (events ++ added)

-- the start failed; a command that isn't found or can't be run is no failure, and neither is want of memory
abbrev pub is_start_failed : Result Pid StartFault → Bool
is_start_failed (Ok pid) = false
is_start_failed (Err NotFound) = false
is_start_failed (Err NotStartable) = false
is_start_failed (Err StartFailed) = true
is_start_failed (Err NoStartMemory) = false

-- the call failed; want of memory is no failure
abbrev pub is_failed : {T : Type 0} → Result T Fault → Bool
is_failed (Ok value) = false
is_failed (Err Failed) = true
is_failed (Err NoMemory) = false

-- the event of a call; a call that had no memory has none
unfoldable pub told_unless_no_start_memory : Result Pid StartFault → Event → List Event
told_unless_no_start_memory (Ok pid) event = event ∷ []
told_unless_no_start_memory (Err NotFound) event = event ∷ []
told_unless_no_start_memory (Err NotStartable) event = event ∷ []
told_unless_no_start_memory (Err StartFailed) event = event ∷ []
told_unless_no_start_memory (Err NoStartMemory) event = []

-- the same of a call that is no start
unfoldable pub told_unless_no_memory : {T : Type 0} → Result T Fault → Event → List Event
told_unless_no_memory (Ok value) event = event ∷ []
told_unless_no_memory (Err Failed) event = event ∷ []
told_unless_no_memory (Err NoMemory) event = []

-- the same of a call whose answer takes memory, by its event for each answer; a value that came and was lost for want of memory may have its event
unfoldable pub told_or_lost : {T : Type 0} → (Result T Fault → Event) → Result T Fault → (lost : Option T) → List Event
told_or_lost event (Ok value) lost = event (Ok value) ∷ []
told_or_lost event (Err Failed) lost = event (Err Failed) ∷ []
told_or_lost event (Err NoMemory) None = []
told_or_lost event (Err NoMemory) (Some value) = event (Ok value) ∷ []

-- the event that a start adds, by its answer; none where there was no memory
abbrev pub started : List (List ℕ) → Vars → List ℕ → List (Option Handle) → Result Pid StartFault → List Event
started words env dir ends answer = told_unless_no_start_memory answer (Start words env dir ends answer)

-- the event of a wait; none where there was no memory
abbrev pub waited : Pid → Result Ended Fault → List Event
waited pid answer = told_unless_no_memory answer (Wait pid answer)

-- the event of an open; none where there was no memory
abbrev pub file_opened : (dir path : List ℕ) → Mode → Result Handle Fault → List Event
file_opened dir path mode answer = told_unless_no_memory answer (Opened dir path mode answer)

-- the event of a pipe; none where there was no memory
abbrev pub pipe_made : Result PipeEnds Fault → List Event
pipe_made answer = told_unless_no_memory answer (Pipe answer)

-- the event of a feed; none where there was no memory
abbrev pub fed : List ℕ → Result Handle Fault → List Event
fed bytes answer = told_unless_no_memory answer (Feed bytes answer)

-- the event of a write; none where there was no memory
abbrev pub written : Handle → List ℕ → Result (Unit {0}) Fault → List Event
written handle bytes answer = told_unless_no_memory answer (Write handle bytes answer)

-- a count rose, or stands at the last value of a counter
abbrev pub Rose : ℕ → ℕ → Type 0
Rose before now = min (before + 1) (2 ^ 64 - 1) ≤ now

-- the count never falls, and this error comes only where it rose
pub record HasCause {T E : Type 0} (before now : ℕ) (answer : Result T E) (error : E) : Type 0 where
  pub later : before ≤ now
  pub risen : IsErrOf answer error → Rose before now

-- a signal is from 1 to 127
abbrev pub is_wait_status : Ended → Bool
is_wait_status (Exited code) = true
is_wait_status (Killed signal) = nat_lt 0 signal && nat_lt signal 128

-- the same, as a type
abbrev pub IsWaitStatus : Ended → Type 0
IsWaitStatus (Exited code) = Unit {0}
IsWaitStatus (Killed signal) = (0 < signal) × (signal < 128)

-- A world that records the calls which it passes on.
use Rattle.std.specs.Prelude.{◌≡◌, ◌⊎◌, ℕ, ◌≤◌, Bool, true, false, List, ◌++◌, length, Option, Some, Result, Ok, Err}
use Rattle.el_world.specs.declared.event.Event.{Event}
use Rattle.el_world.specs.declared.event.Fault.{Fault}
use Rattle.el_world.specs.declared.event.Fault.TheVariants.{Failed, NoMemory}
use Rattle.el_world.specs.declared.event.Pid.{Pid}
use Rattle.el_world.specs.declared.event.StartFault.{StartFault}
use Rattle.el_world.specs.declared.event.StartFault.TheVariants.{NotFound, NotStartable, Failed as StartFailed, NoMemory as NoStartMemory}
use Rattle.el_world.specs.World.{Seen, Origin, past, told_unless_no_memory, told_or_lost}
use Rattle.el_world.specs.Runs.{Added}
use Rattle.el_record.specs.Lost.{AddedButForLost}
use Rattle.el_record.specs.Recordable.{AreRecordable}

-- what a recorder is seen as: the inner world; the same as it was handed in; the events recorded since; and whether they
-- are all that the inner world was given
pub record Recorded (W : Type 0) : Type 0 where
  pub world : W
  pub before : W
  pub log : List Event
  pub whole : Bool

-- the origin of a world that passes its calls on to one that was seen so
abbrev pub past_of : Seen → Origin
past_of seen = past seen.log seen.faults seen.held seen.next seen.origin

-- a copy of an answer, or want of memory in place of its value
abbrev pub IsCopyOf : {T : Type 0} → Result T Fault → Result T Fault → Type 0
IsCopyOf (Ok value) copy = (copy ≡ Ok value) ⊎ (copy ≡ Err NoMemory)
IsCopyOf (Err fault) copy = copy ≡ Err fault

module _ {W : Type 0} (seen : W → Seen) where
  -- it tells its own log; its faults, handles and next number are the inner ones; and its origin is the inner world as it was handed in
  abbrev pub seen_of : Recorded W → Seen
  seen_of recorder = record { log = Some recorder.log; faults = (seen recorder.world).faults; held = (seen recorder.world).held; next = (seen recorder.world).next; origin = past_of (seen recorder.before) }

  -- The inner world was given these events, and they were recorded.
  pub record Passed (old new : Recorded W) (told : List Event) : Type 0 where
    pub log : new.log ≡ old.log ++ told
    pub added : Added (seen old.world) (seen new.world) told
    pub before : new.before ≡ old.before
    pub whole : new.whole ≡ old.whole

  -- The same of a call whose answer takes memory. What came is recorded, also where it couldn't be handed on; and where the inner world had no memory, it may have told a value that nobody has seen.
  pub record Handed {T : Type 0} (old new : Recorded W) (event : Result T Fault → Event) (answer : Result T Fault) : Type 0 where
    pub came : Result T Fault
    pub unseen : Option T
    pub log : new.log ≡ old.log ++ told_unless_no_memory came (event came)
    pub added : Added (seen old.world) (seen new.world) (told_or_lost event came unseen)
    pub copy : IsCopyOf came answer
    pub before : new.before ≡ old.before
    pub whole : new.whole ≡ true → (old.whole ≡ true) × (told_or_lost event came unseen ≡ told_unless_no_memory came (event came))

-- ---- inside

-- the closes of what is held are due; what was recorded is what the inner world was given, but for what was lost, and for nothing while the recorder is whole; and a trace's text can hold it
pub record IsKept {W : Type 0} (seen : W → Seen) (recorder : Recorded W) (closes : ℕ) : Type 0 where
  pub counted : length (seen recorder.world).held ≤ closes
  pub in_step : recorder.whole ≡ true → Added (seen recorder.before) (seen recorder.world) recorder.log
  pub but_for_lost : AddedButForLost (seen recorder.before) (seen recorder.world) recorder.log
  pub fits : AreRecordable recorder.log

-- the call has an event: there was memory for it
abbrev pub has_event : {T : Type 0} → Result T Fault → Bool
has_event (Ok value) = true
has_event (Err Failed) = true
has_event (Err NoMemory) = false

-- the same of a start
abbrev pub has_start_event : Result Pid StartFault → Bool
has_start_event (Ok pid) = true
has_start_event (Err NotFound) = true
has_start_event (Err NotStartable) = true
has_start_event (Err StartFailed) = true
has_start_event (Err NoStartMemory) = false

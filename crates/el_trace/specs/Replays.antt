-- A world that answers calls as recorded events say.
use Rattle.el_room.specs.Vocabulary.{list_all, Event, Seen, is_lawful, are_lawful, is_given, given_by, held_after_all, Call, AnswerOf, start, wait, open_file, pipe, feed, read, write, close, enter, call_of, is_fault}
use Rattle.std.specs.Prelude.{◌≡◌, ◌⊎◌, ℕ, ◌≤◌, nat_lt, Bool, true, false, List, [], ◌∷◌, ◌++◌, length, drop, filter, Option, None, Some, Err, if◌then◌else◌}
use Rattle.el_world.specs.declared.event.Fault.TheVariants.{Failed}
use Rattle.el_world.specs.declared.event.StartFault.TheVariants.{Failed as StartFailed}
use Rattle.el_world.specs.World.{past, none}
use Rattle.el_world.specs.Scripted.{counted}
use Rattle.el_trace.specs.NewHandles.{first_number, next_behind, keep_numbers}

-- Own events go on as the recorded ones do, up to a place where none was recorded, or another call.
abbrev pub Retraces : (recorded own : List Event) → Type 0
Retraces [] own = Unit {0}
Retraces (event ∷ recorded) [] = Unit {0}
Retraces (event ∷ recorded) (other ∷ own) = ((event ≡ other) × Retraces recorded own) ⊎ (call_of event ≡ call_of other → ⊥)

-- ---- what it is seen as

-- what a replaying world is seen as: the recorded events; its own so far; the recorded ones that may still be replayed; its faults; and
-- the next number
pub record Replaying : Type 0 where
  pub recorded : List Event
  pub log : List Event
  pub left : List Event
  pub faults : ℕ
  pub next : ℕ

-- it tells its own events, holds what they gave and didn't close, and was made of the recorded events
abbrev pub seen_of : Replaying → Seen
seen_of replay = record { log = Some replay.log; faults = replay.faults; held = filter is_given (held_after_all [] replay.log); next = replay.next; origin = past (Some replay.recorded) 0 [] 0 none }

-- a new one: all recorded events are left
abbrev pub begun : List Event → Replaying
begun recorded = record { recorded = recorded; log = []; left = recorded; faults = 0; next = first_number }

-- ---- calls

-- what a call is answered that wasn't recorded: it fails, but for a close
abbrev pub failure : (call : Call) → AnswerOf call
failure (start words env dir ends) = Err StartFailed
failure (wait pid) = Err Failed
failure (open_file dir path mode) = Err Failed
failure pipe = Err Failed
failure (feed bytes) = Err Failed
failure (read handle) = Err Failed
failure (write handle bytes) = Err Failed
failure (close handle) = tt
failure (enter dir path) = Err Failed

-- what is answered: what was recorded, or else a failure
abbrev pub or_failed : {T : Type 0} → T → Option T → T
or_failed failed None = failed
or_failed failed (Some answer) = answer

-- the event of a call is the next that was recorded; or another call was recorded, or none, and it gives nothing
abbrev pub Fits : (left : List Event) → Event → Bool → Type 0
Fits left event true = left ≡ event ∷ drop 1 left
Fits left event false = ((other : Event) (more : List Event) → left ≡ other ∷ more → call_of other ≡ call_of event → ⊥) × (given_by event ≡ []) × (is_lawful event ≡ true)

-- Behind a call: it is told, and counted where it failed. Behind one that wasn't recorded nothing is replayed any more.
abbrev pub behind : Replaying → Event → Bool → Replaying
behind old event fits = record {
  recorded = old.recorded;
  log = old.log ++ event ∷ [];
  left = if fits then drop 1 old.left else [];
  faults = counted (is_fault event) old.faults;
  next = next_behind old.next (given_by event);
}

-- ---- inside

-- what is left is what was recorded behind the own events; or these have parted from the recorded ones
abbrev pub GoesOn : (recorded own left : List Event) → Type 0
GoesOn recorded own left = (recorded ≡ own ++ left) ⊎ ((left ≡ []) × ((more : List Event) → Retraces recorded (own ++ more)))

-- the events of closing what is held are due; what is held lies below the next number, which is none of the process's own; what may still
-- be replayed is lawful and gives new handles; and the own events go on as the recorded ones
pub record IsSound (replay : Replaying) (closes : ℕ) : Type 0 where
  pub closes_due : length (held_after_all [] replay.log) ≤ closes
  pub own_below : 3 ≤ replay.next
  pub all_below : list_all (λ handle. nat_lt handle.number replay.next) (held_after_all [] replay.log) ≡ true
  pub keeps : keep_numbers replay.next replay.left ≡ true
  pub lawful : are_lawful replay.left ≡ true
  pub goes_on : GoesOn replay.recorded replay.log replay.left

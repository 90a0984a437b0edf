-- How code is tied to acts and plans.
use Rattle.std.specs.Prelude.{◌≡◌, ℕ, ◌≤◌, true, List, [], ◌++◌, Option, None, Some, Result, Ok, Err}
use Rattle.el_world.specs.declared.event.Event.{Event}
use Rattle.el_world.specs.declared.event.Fault.{Fault}
use Rattle.el_world.specs.declared.event.Fault.TheVariants.{Failed, NoMemory}
use Rattle.el_world.specs.declared.event.Handle.{Handle}
use Rattle.el_world.specs.World.{Seen, extended, Rose}
use Rattle.el_world.specs.Lawful.{are_lawful}
use Rattle.el_world.specs.Handles.{Rising, given_in, held_after_all, all_fresh, all_name_held}
use Rattle.el_world.specs.Calls.{found_in, has_fault}
use Rattle.el_world.specs.Acts as act
use Rattle.el_world.specs.Acts.{Act}
use Rattle.el_world.specs.Plans as plan
use Rattle.el_world.specs.Plans.{Plan, Outcome, Made, made}

-- events that a world was given between two states: they are lawful, they are told where it tells, a failed call among them
-- has its cause, the handles held and the next number are those after them, each names only what is held when it is made, and the
-- origin is as it was
pub record Added (old new : Seen) (events : List Event) : Type 0 where
  pub lawful : are_lawful events ≡ true
  pub told : new.log ≡ extended old.log events
  pub later : old.faults ≤ new.faults
  pub risen : has_fault events ≡ true → Rose old.faults new.faults
  pub held : new.held ≡ held_after_all old.held events
  pub rising : Rising old.next (given_in events) new.next
  pub fresh : all_fresh old.held events ≡ true
  pub named : all_name_held old.held events ≡ true
  pub origin : new.origin ≡ old.origin

module _ {A : Type 0} where
  -- the act makes these events and gives the result; without one it begins with them
  abbrev pub ActAgrees : Act A → List Event → Option A → Type 0
  ActAgrees done events (Some result) = act.Does done events result
  ActAgrees done events None = act.Begins done events

-- Between two states of a world an act was done with this result; with none it was cut off by want of memory.
pub record Done {A : Type 0} (old new : Seen) (done : Act A) (result : Option A) : Type 0 where
  pub events : List Event
  pub added : Added old new events
  pub agrees : ActAgrees done events result

module _ {E A : Type 0} where
  -- with so many units the plan makes these events and comes out so; without an outcome it begins with them
  abbrev pub PlanAgrees : Plan E A → ℕ → List Event → Option (Outcome E A) → ℕ → Type 0
  PlanAgrees run units events (Some outcome) left = plan.Does run units events outcome left
  PlanAgrees run units events None left = plan.Begins run units events

-- Between two states of a world a plan was run with so many units, came out so and left so many; with no outcome it was cut off by want of memory.
pub record Ran {E A : Type 0} (old new : Seen) (run : Plan E A) (units : ℕ) (outcome : Option (Outcome E A)) (left : ℕ) : Type 0 where
  pub events : List Event
  pub added : Added old new events
  pub agrees : PlanAgrees run units events outcome left

-- the same, whatever is left
pub record RanWith {E A : Type 0} (old new : Seen) (run : Plan E A) (units : ℕ) (outcome : Option (Outcome E A)) : Type 0 where
  pub left : ℕ
  pub ran : Ran old new run units outcome left

module _ {E A : Type 0} where
  -- these are the plan's events on the answers found in them, of which none is left over, and it comes out so;
  -- with no outcome they are a prefix of its events
  abbrev pub AreEventsOf : List Event → Made E A → Option (Outcome E A) → Type 0
  AreEventsOf added meant (Some outcome) = (meant.events ≡ added) × (meant.outcome ≡ outcome) × (meant.left ≡ [])
  AreEventsOf added meant None = (later : List Event) × (meant.events ≡ added ++ later)

-- Where the log is told, it has grown by lawful events, which are exactly the plan's on the answers found, and the plan comes out so.
-- The world's origin is as it was.
pub record Tells {E A : Type 0} (old new : Seen) (run : Plan E A) (units : ℕ) (outcome : Option (Outcome E A)) : Type 0 where
  pub told : (before : List Event) → old.log ≡ Some before → (added : List Event) × (new.log ≡ Some (before ++ added)) × (are_lawful added ≡ true) × AreEventsOf added (made run units (found_in added)) outcome
  pub untold : old.log ≡ None → new.log ≡ None
  pub origin : new.origin ≡ old.origin

-- the result of a call that fails by want of memory alone
abbrev pub ok_map : {A B E : Type 0} → Result A E → (A → B) → Option B
ok_map (Ok value) f = Some (f value)
ok_map (Err error) f = None

-- the value of a call that fails by want of memory alone
abbrev pub ok_value : {A E : Type 0} → Result A E → Option A
ok_value result = ok_map result (λ value. value)

-- the answer of a call, unless it had no memory
abbrev pub call_result : {T : Type 0} → Result T Fault → Option (Result T Fault)
call_result (Err NoMemory) = None
call_result (Err Failed) = Some (Err Failed)
call_result (Ok value) = Some (Ok value)

-- what an answer gave is held besides what was held before
abbrev pub NowHolds : {A E : Type 0} → (old new : Seen) → Result A E → (handles : A → List Handle) → Type 0
NowHolds old new (Ok answer) handles = new.held ≡ old.held ++ handles answer
NowHolds old new (Err error) handles = new.held ≡ old.held

-- An event that a world was given and that was lost for want of memory.
use Rattle.std.specs.Prelude.{◌≡◌, ◌⊎◌, ℕ, Bool, true, false, List, ◌∷◌, ◌++◌, Ok}
use Rattle.std.specs.List.{list_all}
use Rattle.el_world.specs.declared.event.Event.{Event}
use Rattle.el_world.specs.declared.event.Event.TheVariants.{Read, Close, Enter}
use Rattle.el_world.specs.World.{Seen}
use Rattle.el_world.specs.Plans.{Plan, Begins}
use Rattle.el_world.specs.Runs.{Added}

-- a read or an enter whose value came; a world that then lacks the memory to hand it on may tell it all the same
abbrev pub may_be_lost : Event → Bool
may_be_lost (Read handle (Ok bytes)) = true
may_be_lost (Enter dir path (Ok found)) = true
may_be_lost event = false

-- the closing of a handle
abbrev pub is_close : Event → Bool
is_close (Close handle) = true
is_close event = false

-- One event more was given than these: a read or an enter whose value was lost. After it only handles were closed.
pub record IsOneLost (given events : List Event) : Type 0 where
  pub before : List Event
  pub lost : Event
  pub closes : List Event
  pub given_are : given ≡ before ++ lost ∷ closes
  pub events_are : events ≡ before ++ closes
  pub may : may_be_lost lost ≡ true
  pub only_closes : list_all is_close closes ≡ true

-- the given events are these, or these and one that was lost
abbrev pub AreButForLost : (given events : List Event) → Type 0
AreButForLost given events = (given ≡ events) ⊎ IsOneLost given events

-- between two states of a world these events were added, and at most one that was lost
pub record AddedButForLost (old new : Seen) (events : List Event) : Type 0 where
  pub given : List Event
  pub added : Added old new given
  pub but_for_lost : AreButForLost given events

-- between two states of a world a plan was begun with so many units: events were added that it begins with, and at most one that was lost
pub record BegunButForLost {E A : Type 0} (old new : Seen) (run : Plan E A) (units : ℕ) : Type 0 where
  pub events : List Event
  pub added : AddedButForLost old new events
  pub begins : Begins run units events

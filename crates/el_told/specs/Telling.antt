-- A world that tells the calls which it passes on.
use Rattle.std.specs.Prelude.{◌≡◌, List, ◌++◌, Option, Some, Result}
use Rattle.el_world.specs.declared.event.Event.{Event}
use Rattle.el_world.specs.declared.event.Fault.{Fault}
use Rattle.el_world.specs.World.{Seen, told_unless_no_memory, told_or_lost}
use Rattle.el_world.specs.Runs.{Added}
use Rattle.el_told.specs.declared.told.Told.{Told}

-- a world that is seen as the inner one is, but that it tells these events
abbrev pub telling : Seen → List Event → Seen
telling inner events = record { log = Some events; faults = inner.faults; held = inner.held; next = inner.next; origin = inner.origin }

module _ {W : Type 0} (seen : W → Seen) where
  -- it tells the events of its own trail; its faults, handles, next number and origin are the inner ones
  abbrev pub seen_of : Told W → Seen
  seen_of told = telling (seen told.world) told.trail.events

  -- The inner world was given these events, and they were told.
  pub record Passed (old new : Told W) (events : List Event) : Type 0 where
    pub log : new.trail.events ≡ old.trail.events ++ events
    pub added : Added (seen old.world) (seen new.world) events

  -- The same of a call whose answer takes memory. If the inner world had no memory, it may have told a value that nobody has seen.
  pub record Handed {T : Type 0} (old new : Told W) (event : Result T Fault → Event) (answer : Result T Fault) : Type 0 where
    pub unseen : Option T
    pub log : new.trail.events ≡ old.trail.events ++ told_unless_no_memory answer (event answer)
    pub added : Added (seen old.world) (seen new.world) (told_or_lost event answer unseen)

-- A world in which one call fails. Only the code's contracts need it.
use Rattle.std.specs.Prelude.{◌≡◌, ◌⊎◌, ◌-◌, ℕ, Bool, true, false, nat_eq, nat_le, List, ◌∷◌, ◌++◌, take, drop, length, Option, None, Some, option_map, Result, Err}
use Rattle.el_world.specs.declared.event.Event.{Event}
use Rattle.el_world.specs.declared.fuse.Wire.{Wire as CodeWire}
use Rattle.el_world.specs.declared.fuse.Wire.TheVariants.{Whole, Blown}
use Rattle.el_world.specs.declared.event.Pid.{Pid}
use Rattle.el_world.specs.declared.event.Fault.{Fault}
use Rattle.el_world.specs.declared.event.Fault.TheVariants.{Failed, NoMemory}
use Rattle.el_world.specs.declared.event.StartFault.{StartFault}
use Rattle.el_world.specs.declared.event.StartFault.TheVariants.{Failed as StartFailed, NoMemory as NoStartMemory}
use Rattle.el_world.specs.World.{Seen, told_unless_no_memory, told_or_lost, told_unless_no_start_memory}
use Rattle.el_world.specs.Scripted.{counted}
use Rattle.el_world.specs.Runs.{Added}

-- the event of the call that failed, and the inner world at that moment
pub record Failure (W : Type 0) : Type 0 where
  pub event : Event
  pub before : W

-- how many calls are due up to the one that fails, itself among them, or none where it is 0; or that call has come, and has
-- its event unless it had no memory
pub data Wire (W : Type 0) : Type 0 where
  whole : (left : ℕ) → Wire W
  blown : Option (Failure W) → Wire W

-- what a fuse is seen as: the inner world, and its wire
pub record Fused (W : Type 0) : Type 0 where
  pub world : W
  pub wire : Wire W

-- ---- what it shows

-- an event at a place among others
abbrev pub put_in : (place : ℕ) → Event → List Event → List Event
put_in place event events = take place events ++ event ∷ drop place events

-- how many events a log tells; 0 where it isn't told
abbrev pub told_length : Option (List Event) → ℕ
told_length None = 0
told_length (Some events) = length events

-- the call that fails has come
abbrev pub has_come : {W : Type 0} → Wire W → Bool
has_come (whole left) = false
has_come (blown failure) = true

-- the event of the call that failed
abbrev pub failed_event : {W : Type 0} → Wire W → Option Event
failed_event (whole left) = None
failed_event (blown None) = None
failed_event (blown (Some failure)) = Some failure.event

module _ {W : Type 0} (seen : W → Seen) where
  -- the inner log, with the failed event at its place
  abbrev pub log_through : Wire W → W → Option (List Event)
  log_through (whole left) world = (seen world).log
  log_through (blown None) world = (seen world).log
  log_through (blown (Some failure)) world = option_map (put_in (told_length (seen failure.before).log) failure.event) (seen world).log

  -- one fault more than the inner world has, once the call has come
  abbrev pub seen_through : Fused W → Seen
  seen_through fuse = record { log = log_through fuse.wire fuse.world; faults = counted (has_come fuse.wire) (seen fuse.world).faults; held = (seen fuse.world).held; next = (seen fuse.world).next; origin = (seen fuse.world).origin }

-- ---- what a call does

-- this is the call that fails
abbrev pub is_due : {W : Type 0} → Wire W → Bool
is_due (whole left) = nat_eq left 1
is_due (blown failure) = false

-- one call less is due
abbrev pub counted_down : {W : Type 0} → Wire W → Wire W
counted_down (whole left) = whole (left - 1)
counted_down (blown failure) = blown failure

-- The inner world was given these events, and nothing else changed but the count.
pub record Passes {W : Type 0} (seen : W → Seen) (old new : Fused W) (told : List Event) : Type 0 where
  pub wire : new.wire ≡ counted_down old.wire
  pub added : Added (seen old.world) (seen new.world) told

-- The inner world is as it was. The call failed and has its event, or there was no memory for that.
pub record Blows {W T E : Type 0} (old new : Fused W) (event : Event) (answer : Result T E) (failed no_memory : E) : Type 0 where
  pub world : new.world ≡ old.world
  pub wire : ((answer ≡ Err failed) × (new.wire ≡ blown (Some (record { event = event; before = old.world })))) ⊎ ((answer ≡ Err no_memory) × (new.wire ≡ blown None))

-- what a call does by whether it is the one that fails
abbrev pub by_due : {W T E : Type 0} → (seen : W → Seen) → (is_due : Bool) → (old new : Fused W) → (told : List Event) → Event → (answer : Result T E) → (failed no_memory : E) → Type 0
by_due seen true old new told event answer failed no_memory = Blows old new event answer failed no_memory
by_due seen false old new told event answer failed no_memory = Passes seen old new told

-- a call through a fuse, by its event for each answer
abbrev pub Fuses : {W T : Type 0} → (seen : W → Seen) → (old new : Fused W) → (event : Result T Fault → Event) → (answer : Result T Fault) → Type 0
Fuses seen old new event answer = by_due seen (is_due old.wire) old new (told_unless_no_memory answer (event answer)) (event (Err Failed)) answer Failed NoMemory

-- the same where the inner world may lose the value that came
abbrev pub FusesOrLoses : {W T : Type 0} → (seen : W → Seen) → (old new : Fused W) → (event : Result T Fault → Event) → (answer : Result T Fault) → Type 0
FusesOrLoses {T = T} seen old new event answer = (lost : Option T) × by_due seen (is_due old.wire) old new (told_or_lost event answer lost) (event (Err Failed)) answer Failed NoMemory

-- and a start
abbrev pub FusesStart : {W : Type 0} → (seen : W → Seen) → (old new : Fused W) → (event : Result Pid StartFault → Event) → (answer : Result Pid StartFault) → Type 0
FusesStart seen old new event answer = by_due seen (is_due old.wire) old new (told_unless_no_start_memory answer (event answer)) (event (Err StartFailed)) answer StartFailed NoStartMemory

-- ---- inside

-- the wire as the code holds it
abbrev pub wire_of : {W : Type 0} → CodeWire W → Wire W
wire_of (Whole left) = whole left
wire_of (Blown None) = blown None
wire_of (Blown (Some failure)) = blown (Some (record { event = failure.event; before = failure.before.value }))

-- the log has grown since the call failed
abbrev pub is_in_place : {W : Type 0} → (W → Seen) → Wire W → W → Bool
is_in_place seen (whole left) world = true
is_in_place seen (blown None) world = true
is_in_place seen (blown (Some failure)) world = nat_le (told_length (seen failure.before).log) (told_length (seen world).log)

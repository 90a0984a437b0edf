-- What a recorder knows of a call before its event can be written. Only the code's contracts need it.
use Rattle.std.specs.Prelude.{◌≡◌, ℕ, ◌<◌, ◌^◌, true, List, [], ◌∷◌, length, Option}
use Rattle.std.specs.List.{list_all}
use Rattle.std.specs.FinMap as map
use Rattle.el_env.specs.Vars.{Vars}
use Rattle.el_env.specs.Name.{is_good_name}
use Rattle.el_world.specs.declared.event.Event.{Event}
use Rattle.el_world.specs.declared.event.Event.TheVariants.{Start}
use Rattle.el_world.specs.declared.event.Handle.{Handle}
use Rattle.el_world.specs.declared.event.Ended.{Ended}
use Rattle.el_world.specs.declared.event.Ended.TheVariants.{Exited, Killed}
use Rattle.el_world.specs.Lawful.{is_lawful}
use Rattle.el_record.specs.Recordable.{IsEnd, ArePairTexts}

-- variables that can be written
pub record AreVariables (env : Vars) : Type 0 where
  pub few : length (map.entries env) < 2 ^ 64
  pub texts : ArePairTexts (map.entries env)
  pub names : list_all (λ (pair : List ℕ × List ℕ). is_good_name pair.0) (map.entries env) ≡ true

-- three ends that can be written
pub record AreThreeEnds (ends : List (Option Handle)) : Type 0 where
  pub input : Option Handle
  pub output : Option Handle
  pub error : Option Handle
  pub ends_are : ends ≡ input ∷ output ∷ error ∷ []
  pub each_is : IsEnd input × IsEnd output × IsEnd error

-- a status or a signal has 8 bits
abbrev pub HasByte : Ended → Type 0
HasByte (Exited code) = code < 256
HasByte (Killed signal) = signal < 256

-- a start has a word, and variables that can be written
abbrev pub HasStartParts : Event → Type 0
HasStartParts (Start words env dir ends answer) = (0 < length words) × AreVariables env
HasStartParts event = Unit {0}

-- an event that a world may tell, whose start has these parts
pub record IsTellable (event : Event) : Type 0 where
  pub lawful : is_lawful event ≡ true
  pub parts : HasStartParts event

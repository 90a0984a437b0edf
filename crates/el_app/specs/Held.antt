-- What is held behind execlineb or a vector: exactly what was held before it, and what the numbers of its process hold at its end.
use Rattle.el_room.specs.Vocabulary.{Vars, Handle, Finish, NoMemory, Seen, ended, RanWith, State, Task}
use Rattle.std.specs.Prelude.{ℕ, List, Some}
use Rattle.el_world.specs.declared.finish.Finish.TheVariants.{Status, Spent}
use Rattle.el_world.specs.States as end
use Rattle.el_machine.specs.Exact.{HoldsExactly}
use Rattle.el_machine.specs.Flat.{flat_run}
use Rattle.el_app.specs.Execlineb.{execlineb_run}
use Rattle.el_app.specs.First.{first_state}

-- the run ended with this status in a state, and beside a base the handles at the numbers of that state are held, and nothing else
pub record EndsHolding (old new : Seen) (run : Task ⊥) (units code : ℕ) (base : List Handle) : Type 0 where
  pub state : State
  pub ends : RanWith old new run units (Some (ended (end.Status code state)))
  pub holds : HoldsExactly base new.held state.fds

-- so it is behind a run that ends with a status; a spent budget or want of memory may cut anything off
abbrev pub HoldsAtStatus : Finish → (old new : Seen) → Task ⊥ → (units : ℕ) → (base : List Handle) → Type 0
HoldsAtStatus (Status code) old new run units base = EndsHolding old new run units code base
HoldsAtStatus Spent old new run units base = Unit {0}
HoldsAtStatus NoMemory old new run units base = Unit {0}

-- what was held before the call is held behind it, and of what it was given just what its process has at a number
pub record KeepsWhatIsHeld (old new : Seen) (words : List (List ℕ)) (env : Vars) (dir : List ℕ) (units : ℕ) (result : Finish) : Type 0 where
  pub exactly : HoldsAtStatus result old new (execlineb_run words (first_state env dir)) units old.held

-- the same of the top call on a vector
pub record VectorKeepsWhatIsHeld (old new : Seen) (vector : List (List ℕ)) (env : Vars) (dir : List ℕ) (units : ℕ) (result : Finish) : Type 0 where
  pub exactly : HoldsAtStatus result old new (flat_run vector (first_state env dir)) units old.held

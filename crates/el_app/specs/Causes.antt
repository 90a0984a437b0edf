-- Why execlineb, or the top call on a vector, answers 111 though no call of it failed.
use Rattle.el_room.specs.Vocabulary.{Vars, execlineb_options, Event, Finish, Seen, given, Does, Left}
use Rattle.std.specs.Prelude.{◌≡◌, ℕ, List, ◌++◌, Ok}
use Rattle.el_world.specs.declared.finish.Finish.TheVariants.{Status}
use Rattle.el_machine.specs.Causes.{NoneFailed, RunEndsWith111, HasCause, HasCauseUnlessFailed, RunCause, HasCauseOf111}
use Rattle.el_app.specs.declared.asked.Asked.{Asked}
use Rattle.el_app.specs.Options.{asked}
use Rattle.el_app.specs.Execlineb.{prelude}
use Rattle.el_app.specs.First.{first_state}
use Rattle.el_app.specs.Headline.{state_at_reading}

-- by the first of these events the script was read and its words were made ready, and for the others the run of these words has a cause
pub record CallEndsWith111 (words : List (List ℕ)) (env : Vars) (dir : List ℕ) (units : ℕ) (events : List Event) : Type 0 where
  pub asking : Asked
  pub is_asked : asked execlineb_options words ≡ Ok asking
  pub first : List Event
  pub later : List Event
  pub parts : events ≡ first ++ later
  pub begun : Left
  pub left : ℕ
  pub prepared : Does (prelude asking (state_at_reading asking env dir)) units first (given begun) left
  pub cause : RunEndsWith111 (record { words = begun.words; state = begun.state; units = left; events = later })

-- an answer of 111 has a cause where none of the calls between two states of a world failed, and so where no fault was counted
abbrev pub IsCaused : (old new : Seen) (words : List (List ℕ)) → Vars → (dir : List ℕ) → (units : ℕ) → (result : Finish) → Type 0
IsCaused old new words env dir units result =
    result ≡ Status 111 → HasCauseUnlessFailed old new (CallEndsWith111 words env dir units) × (NoneFailed old new → HasCause old new (CallEndsWith111 words env dir units))

-- The same of the top call on a vector: its run has a cause.
abbrev pub IsVectorCaused : (old new : Seen) → (vector : List (List ℕ)) → Vars → (dir : List ℕ) → (units : ℕ) → (result : Finish) → Type 0
IsVectorCaused old new vector env dir units result =
    result ≡ Status 111 → HasCauseUnlessFailed old new (RunCause vector (first_state env dir) units) × (NoneFailed old new → HasCauseOf111 old new vector (first_state env dir) units)

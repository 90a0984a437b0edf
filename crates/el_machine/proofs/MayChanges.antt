-- States that differ only in what a program may change.
use Rattle.el_room.proofs.Vocabulary.{Prog, Vars, Handle, State}
use Rattle.std.proofs.Common.{◌≡◌, true, List, Option, refl, sym, ◌∙◌, true≢false}
use Rattle.el_machine.specs.Changes.{VariablesChange, changes_descriptors, MayChange}

module _ (program : Prog) (state : State) where
  -- in nothing
  pub unchanged : VariablesChange program state.env state.env → MayChange program state state
  unchanged change = record { variables = change; directory = λ no. refl; descriptors = λ no. refl; kids = λ no. refl }

  -- in the variables
  pub other_variables : (env : Vars) → VariablesChange program state.env env → MayChange program state (record state { env = env })
  other_variables env change = record { variables = change; directory = λ no. refl; descriptors = λ no. refl; kids = λ no. refl }

  -- in what the numbers hold
  pub other_numbers : (fds : List (Option Handle)) → changes_descriptors program ≡ true → VariablesChange program state.env state.env → MayChange program state (record state { fds = fds })
  other_numbers fds changes change = record { variables = change; directory = λ no. refl; descriptors = λ no. absurd (true≢false (sym changes ∙ no)); kids = λ no. refl }

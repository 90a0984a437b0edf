-- What is kept after the start of a command that isn't found.
use Rattle.std.proofs.Common.{◌≡◌, ◌⊎◌, List, [], ℕ, Option, subst}
use Rattle.el_world.specs.declared.event.StartFault.{StartFault}
use Rattle.el_world.specs.declared.event.StartFault.TheVariants.{NotFound}
use Rattle.el_real.specs.declared.lack.Lack.{Lack}
use Rattle.el_real.specs.declared.unstarted.Unstarted.TheVariants.{Refused}
use Rattle.el_real.specs.Starts.{command_fault_of}
use Rattle.el_real.specs.Unstartable.{IsUnfoundLine}
use Rattle.el_real.specs.Reasons.{IsKeptOfCommand, IsKeptOfUnstarted}

-- whatever is told of it is what is kept
pub kept-unfound : (path : Option (List ℕ)) (dir program : List ℕ) (lack : Lack) (line : List ℕ)
    → NotFound ≡ command_fault_of lack → (line ≡ []) ⊎ IsUnfoundLine path dir program line
    → IsKeptOfUnstarted path dir program (Refused lack) line
kept-unfound path dir program lack line fault told =
    subst (λ (fault : StartFault). IsKeptOfCommand fault path dir program lack line) fault told

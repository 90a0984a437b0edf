-- Steps of the speller.
use Rattle.std.proofs.Common.{◌≡◌, List, ℕ, Result, sym, subst}
use Rattle.el_blocks.specs.declared.fault.SpellFault.{SpellFault}
use Rattle.el_blocks.specs.Computed.{IsFaultOf}

pub fault-along : (one other : Result (List (List ℕ)) SpellFault) (fault : SpellFault) → one ≡ other → IsFaultOf other fault → IsFaultOf one fault
fault-along one other fault same is = subst (λ answer. IsFaultOf answer fault) (sym same) is

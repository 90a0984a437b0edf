use Rattle.std.proofs.Common.{◌≡◌, drop}
use Rattle.std.specs.List.{list_all}
use Rattle.el_family.specs.Processes.{Process}
use Rattle.el_family.specs.Agreement.{child_agrees}
use Rattle.el_family.proofs.family.Family.agrees.Given as goal

-- all so far agree
abbrev pub invariant-loop-number : goal.invariant-loop-number
invariant-loop-number l =
    list_all (λ (child : Process). child_agrees l.self child.origin child.ran) (drop l.number l.self) ≡ list_all (λ (child : Process). child_agrees l.self child.origin child.ran) l.self

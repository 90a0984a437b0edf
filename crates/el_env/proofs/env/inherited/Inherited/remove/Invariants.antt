use Rattle.std.proofs.Common.{◌≡◌, ◌≢◌, ℕ, List, length}
use Rattle.el_env.specs.Inherited.{value_in}
use Rattle.el_env.proofs.env.inherited.Inherited.remove.Given as goal

abbrev pub invariant-loop-at : goal.invariant-loop-at
invariant-loop-at l = (other : List ℕ) → other ≢ l.name → value_in other l.self ≡ value_in other l.initial.self

abbrev pub decreases-loop-at : goal.decreases-loop-at
decreases-loop-at l = length l.self

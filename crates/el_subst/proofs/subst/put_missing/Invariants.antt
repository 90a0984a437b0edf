use Rattle.std.proofs.Common.{◌≡◌, ◌≤◌, ◌++◌, ◌+◌, ◌-◌, [], max}
use Rattle.el_subst.specs.Pairs.{numbered}
use Rattle.el_subst.proofs.subst.put_missing.Given as goal

abbrev pub invariant-loop-number : goal.invariant-loop-number
invariant-loop-number l = (l.number ≤ max l.count l.least) × (l.pairs.items ≡ l.fn.pairs.items ++ numbered (l.count + 1) (l.number - l.count) [])

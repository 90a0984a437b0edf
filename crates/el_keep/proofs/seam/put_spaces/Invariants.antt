use Rattle.std.proofs.Common.{◌≡◌, ◌++◌}
use Rattle.el_keep.specs.Seams.{spaces}
use Rattle.el_keep.proofs.seam.put_spaces.Given as goal

abbrev pub invariant-loop : goal.invariant-loop
invariant-loop l = l.out ≡ l.initial.out ++ spaces l.counter

use Rattle.std.proofs.Common.{◌-◌, length}
use Rattle.el_subst.proofs.Values.{Stays}
use Rattle.el_subst.proofs.paired.next_paired.Given as goal

abbrev pub invariant-loop-place : goal.invariant-loop-place
invariant-loop-place l = Stays l.lookup l.bytes l.start

abbrev pub decreases-loop-place : goal.decreases-loop-place
decreases-loop-place l = length l.bytes - l.start

use Rattle.std.proofs.Common.{length}
use Rattle.el_subst.proofs.Referring.{RefersAlike}
use Rattle.el_subst.proofs.referred.next_reference.Given as goal

abbrev pub invariant-loop-dollar : goal.invariant-loop-dollar
invariant-loop-dollar l = RefersAlike l.word l.rest

abbrev pub decreases-loop-dollar : goal.decreases-loop-dollar
decreases-loop-dollar l = length l.rest

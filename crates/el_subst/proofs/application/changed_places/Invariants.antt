use Rattle.std.proofs.Common.{◌-◌, ◌≤◌, length}
use Rattle.el_subst.specs.Staying.{AreChanged}
use Rattle.el_subst.proofs.application.changed_places.Given as goal

abbrev pub invariant-loop-place : goal.invariant-loop-place
invariant-loop-place l = record {
  within : l.start ≤ length l.words;
  changed : AreChanged l.lookup l.words l.from l.changed.items l.start;
}

abbrev pub decreases-loop-place : goal.decreases-loop-place
decreases-loop-place l = length l.words - l.start

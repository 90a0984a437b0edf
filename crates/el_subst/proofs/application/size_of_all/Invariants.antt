use Rattle.std.proofs.Common.{◌≤◌, length, drop}
use Rattle.el_subst.specs.Staying.{AreChanged}
use Rattle.el_subst.proofs.Sizes.{CountsAll}
use Rattle.el_subst.proofs.application.size_of_all.Given as goal

abbrev pub invariant-loop-place : goal.invariant-loop-place
invariant-loop-place l = record {
  within : l.from ≤ length l.words;
  counts : CountsAll l.lookup l.words (drop l.from l.words) l.size;
  changed : AreChanged l.lookup l.words l.from (drop l.place-index l.changed) (length l.words);
}

use Rattle.std.proofs.Common.{drop, length}
use Rattle.el_subst.specs.Staying.{AreChanged}
use Rattle.el_subst.proofs.Staying.{Filled}
use Rattle.el_subst.proofs.application.all_values.Given as goal

abbrev pub invariant-loop-place : goal.invariant-loop-place
invariant-loop-place l = record {
  filled : Filled l.lookup l.words l.from l.room;
  changed : AreChanged l.lookup l.words l.from (drop l.place-index l.changed) (length l.words);
}

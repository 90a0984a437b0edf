use Rattle.el_tree.proofs.Answered.{pushes, ends}
use Rattle.el_tree.proofs.TreeReadings.{place-tested}
use Rattle.el_tree.proofs.laws.reads_on.Goals as goal

pub returns : goal.returns
returns c = record {
  pushes = pushes;
  ends = ends;
  tested = place-tested;
}

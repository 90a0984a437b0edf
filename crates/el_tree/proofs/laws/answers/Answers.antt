use Rattle.el_tree.proofs.Answered.{answer-is-right, tree-is-answered, fault-is-answered}
use Rattle.el_tree.proofs.laws.answers.Goals as goal

pub returns : goal.returns
returns c = record {
  right = answer-is-right;
  trees = tree-is-answered;
  faults = fault-is-answered;
}

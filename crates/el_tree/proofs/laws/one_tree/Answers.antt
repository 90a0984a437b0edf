use Rattle.el_tree.proofs.Answered.{one-tree}
use Rattle.el_tree.proofs.laws.one_tree.Goals as goal

pub returns : goal.returns
returns c = one-tree

use Rattle.el_check.proofs.Unique.{one-script-tree}
use Rattle.el_check.proofs.laws.one_tree.Goals as goal

pub returns : goal.returns
returns c = one-script-tree

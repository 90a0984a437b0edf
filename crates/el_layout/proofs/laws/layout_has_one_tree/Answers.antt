use Rattle.el_layout.proofs.Layouts.{other-tree}
use Rattle.el_layout.proofs.laws.layout_has_one_tree.Goals as goal

pub returns-clause-same : goal.returns-clause-same
returns-clause-same c = other-tree

use Rattle.el_tree.proofs.Kept.{keeps-structure}
use Rattle.el_tree.proofs.laws.values_keep_structure.Goals as goal

pub returns : goal.returns
returns c = keeps-structure

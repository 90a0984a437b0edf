use Rattle.el_meaning.proofs.Starts.{starts-are-of-the-tree}
use Rattle.el_meaning.proofs.laws.starts_are_of_the_tree.Goals as goal

pub returns : goal.returns
returns c = starts-are-of-the-tree

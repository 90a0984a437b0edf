use Rattle.el_family.proofs.MeantTrees.{members-mean-their-trees}
use Rattle.el_family.proofs.laws.members_mean_their_trees.Goals as goal

pub returns : goal.returns
returns c = members-mean-their-trees

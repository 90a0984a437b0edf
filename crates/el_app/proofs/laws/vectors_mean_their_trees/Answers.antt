use Rattle.el_app.proofs.Vectors.{vectors-mean-their-trees}
use Rattle.el_app.proofs.laws.vectors_mean_their_trees.Goals as goal

pub returns : goal.returns
returns c = vectors-mean-their-trees

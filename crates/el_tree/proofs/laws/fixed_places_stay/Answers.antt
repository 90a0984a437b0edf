use Rattle.el_tree.proofs.OneWord.{fixed_single}
use Rattle.el_tree.proofs.laws.fixed_places_stay.Goals as goal

pub returns : goal.returns
returns c = fixed_single

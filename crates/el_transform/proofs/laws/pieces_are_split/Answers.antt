use Rattle.el_transform.proofs.Pieces.{all_values-split}
use Rattle.el_transform.proofs.laws.pieces_are_split.Goals as goal

pub returns : goal.returns
returns c = all_values-split

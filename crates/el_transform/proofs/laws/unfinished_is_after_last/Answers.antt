use Rattle.el_transform.proofs.Pieces.{unfinished-after_last}
use Rattle.el_transform.proofs.laws.unfinished_is_after_last.Goals as goal

pub returns : goal.returns
returns c = unfinished-after_last

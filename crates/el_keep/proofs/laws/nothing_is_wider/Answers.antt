use Rattle.el_keep.proofs.WideLaws.{nothing-wider}
use Rattle.el_keep.proofs.laws.nothing_is_wider.Goals as goal

pub returns : goal.returns
returns c = nothing-wider

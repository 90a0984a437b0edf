use Rattle.el_blocks.proofs.Blocks.{one-end}
use Rattle.el_blocks.proofs.laws.one_end.Goals as goal

pub returns : goal.returns
returns c = one-end

use Rattle.el_blocks.proofs.Runs.{one-spelling}
use Rattle.el_blocks.proofs.laws.one_spelling.Goals as goal

pub returns : goal.returns
returns c = one-spelling

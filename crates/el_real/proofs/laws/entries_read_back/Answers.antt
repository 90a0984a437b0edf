use Rattle.el_real.proofs.ReadBack.{reads_back}
use Rattle.el_real.proofs.laws.entries_read_back.Goals as goal

pub returns : goal.returns
returns c = reads_back

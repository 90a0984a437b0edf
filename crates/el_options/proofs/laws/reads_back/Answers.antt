use Rattle.el_options.proofs.Places.{read-back}
use Rattle.el_options.proofs.laws.reads_back.Goals as goal

pub returns : goal.returns
returns c = read-back

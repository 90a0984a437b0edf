use Rattle.el_meaning.proofs.Whole.{run-is-meaning}
use Rattle.el_meaning.proofs.laws.run_is_meaning.Goals as goal

pub returns : goal.returns
returns c = run-is-meaning

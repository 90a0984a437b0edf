use Rattle.el_trace.proofs.VerdictLaws.{yes-says-run}
use Rattle.el_trace.proofs.laws.yes_says_run.Goals as goal

pub returns : goal.returns
returns c = yes-says-run

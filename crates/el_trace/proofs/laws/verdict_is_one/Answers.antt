use Rattle.el_trace.proofs.VerdictLaws.{verdict-is-one}
use Rattle.el_trace.proofs.laws.verdict_is_one.Goals as goal

pub returns : goal.returns
returns c = verdict-is-one

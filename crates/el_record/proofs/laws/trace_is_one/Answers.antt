use Rattle.el_record.proofs.TraceWhole.{trace_is_one}
use Rattle.el_record.proofs.laws.trace_is_one.Goals as goal

pub returns : goal.returns
returns c = trace_is_one

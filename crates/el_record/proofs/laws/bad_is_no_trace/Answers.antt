use Rattle.el_record.proofs.TraceWhole.{bad_is_no_trace}
use Rattle.el_record.proofs.laws.bad_is_no_trace.Goals as goal

pub returns : goal.returns
returns c = bad_is_no_trace

use Rattle.el_trace.proofs.Agreement.{is_close}
use Rattle.el_trace.proofs.agreeing.is_close.Goals as goal

pub returns : goal.returns
returns c = is_close c.args.other.now c.args.handle c.close_answer.result c.is_some.result c.is_some.ensures c.close_answer.ensures

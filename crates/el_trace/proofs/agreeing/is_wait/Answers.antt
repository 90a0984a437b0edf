use Rattle.el_world.specs.declared.event.Event.TheVariants.{Wait}
use Rattle.el_trace.proofs.Sameness.{another_call}
use Rattle.el_trace.proofs.agreeing.is_wait.Goals as goal

pub returns-in-None : goal.returns-in-None
returns-in-None c = another_call (Wait c.args.pid c.args.answer.now) c.args.other.now c.in-None.ensures

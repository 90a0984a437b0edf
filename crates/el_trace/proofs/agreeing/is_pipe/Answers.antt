use Rattle.el_world.specs.declared.event.Event.TheVariants.{Pipe}
use Rattle.el_trace.proofs.Sameness.{another_call}
use Rattle.el_trace.proofs.agreeing.is_pipe.Goals as goal

pub returns-in-None : goal.returns-in-None
returns-in-None c = another_call (Pipe c.args.answer.now) c.args.other.now c.in-None.ensures

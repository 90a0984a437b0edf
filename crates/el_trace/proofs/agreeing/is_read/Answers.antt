use Rattle.el_world.specs.declared.event.Event.TheVariants.{Read}
use Rattle.el_trace.proofs.Sameness.{another_call}
use Rattle.el_trace.proofs.agreeing.is_read.Goals as goal

pub returns-in-None : goal.returns-in-None
returns-in-None c = another_call (Read c.args.handle c.args.answer.now) c.args.other.now c.in-None.ensures

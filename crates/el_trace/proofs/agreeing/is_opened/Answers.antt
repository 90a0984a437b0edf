use Rattle.el_world.specs.declared.event.Event.TheVariants.{Opened}
use Rattle.el_trace.proofs.Sameness.{another_call}
use Rattle.el_trace.proofs.agreeing.is_opened.Goals as goal

pub returns-in-None : goal.returns-in-None
returns-in-None c = another_call (Opened c.args.dir.now c.args.path.now c.args.mode c.args.answer.now) c.args.other.now c.in-None.ensures

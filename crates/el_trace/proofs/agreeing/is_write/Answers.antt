use Rattle.el_world.specs.declared.event.Event.TheVariants.{Write}
use Rattle.el_trace.proofs.Sameness.{another_call}
use Rattle.el_trace.proofs.agreeing.is_write.Goals as goal

pub returns-in-None : goal.returns-in-None
returns-in-None c = another_call (Write c.args.handle c.args.bytes.now c.args.answer.now) c.args.other.now (rw c.as_bytes.ensures at c.in-None.ensures)

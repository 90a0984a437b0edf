use Rattle.el_world.specs.declared.event.Event.TheVariants.{Feed}
use Rattle.el_trace.proofs.Sameness.{another_call}
use Rattle.el_trace.proofs.agreeing.is_feed.Goals as goal

pub returns-in-None : goal.returns-in-None
returns-in-None c = another_call (Feed c.args.bytes.now c.args.answer.now) c.args.other.now (rw c.as_bytes.ensures at c.in-None.ensures)

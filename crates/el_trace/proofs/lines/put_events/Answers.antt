use Rattle.el_world.specs.Log.{events_of}
use Rattle.el_trace.proofs.ShownLines.{line_put}
use Rattle.el_trace.proofs.lines.put_events.Goals as goal

pub loop-place-preserved : goal.loop-place-preserved
loop-place-preserved c = line_put c.args.out.now (events_of c.args.log.now) c.loop-place.place c.in-Some.event.now c.in-Some.ensures c.loop-place.invariant c.in_ok-put_line.ensures

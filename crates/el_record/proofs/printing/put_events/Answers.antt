use Rattle.std.proofs.Common.{sym}
use Rattle.el_world.specs.Log.{events_of}
use Rattle.el_record.proofs.Printed.{event_put}
use Rattle.el_record.proofs.printing.put_events.Goals as goal

pub loop-place-preserved : goal.loop-place-preserved
loop-place-preserved c =
    event_put c.args.out.now (events_of c.args.log.now) c.loop-place.place c.in-Some.event.now (sym c.in-Some.ensures) c.loop-place.invariant c.in_ok-put_event.ensures

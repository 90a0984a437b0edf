use Rattle.el_record.proofs.Parsed.{none_so_far, one_so_far, rest_is_shorter, next_is}
use Rattle.el_record.proofs.parsing.read_events.Goals as goal

pub loop-log-init : goal.loop-log-init
loop-log-init c = none_so_far _ _ c.new-log.ensures

pub loop-log-smaller : goal.loop-log-smaller
loop-log-smaller c =
    rest_is_shorter c.loop-log.reader.rest.now c.in-Some.event c.next_event.new.reader.rest.now (next_is _ c.in_ok-event.field-0 _ _ c.in_ok-event.ensures c.in-Some.is)

pub loop-log-preserved : goal.loop-log-preserved
loop-log-preserved c = one_so_far _ c.in-Some.event _ c.loop-log.invariant (next_is _ c.in_ok-event.field-0 _ _ c.in_ok-event.ensures c.in-Some.is) c.in_ok-push.ensures.ok

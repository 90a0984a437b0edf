use Rattle.std.proofs.Common.{sym}
use Rattle.el_app.proofs.Tallying.{goes_on}
use Rattle.el_app.proofs.tallies.tally_of.Goals as goal

pub loop-place-preserved : goal.loop-place-preserved
loop-place-preserved c =
    goes_on c.loop-place.place c.in_ok-event.event.now (sym c.in_ok-event.ensures) c.loop-place.invariant c.in_ok-numbers.ensures.plain c.in_ok-numbers.ensures.next
    c.count.ensures.starts c.count.ensures.waits c.count.ensures.pipes c.count.ensures.closes

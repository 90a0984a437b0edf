use Rattle.std.proofs.Common.{sym, arith}
use Rattle.el_world.specs.Log.{events_of}
use Rattle.el_family.proofs.Walks.{counting_on, all_counted, over}
use Rattle.el_family.proofs.counts.counts_of.Goals as goal

pub loop-place-preserved : goal.loop-place-preserved
loop-place-preserved c = counting_on c.loop-place.place c.in-Some.event.now (sym c.in-Some.ensures) c.loop-place.invariant c.count.ensures.starts c.count.ensures.waits

pub returns : goal.returns
returns c = all_counted (over (events_of c.args.log.now) c.loop-place.place (omega (arith, c.len-place-end.ensures)) (omega (arith, c.len-place-end.ensures, c.loop-place.auto.place-end))) c.loop-place.invariant

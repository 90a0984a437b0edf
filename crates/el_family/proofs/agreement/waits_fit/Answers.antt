use Rattle.std.proofs.Common.{sym, ◌∙◌}
use Rattle.el_world.specs.Log.{events_of}
use Rattle.el_family.specs.Agreement.{fits}
use Rattle.el_family.proofs.Walks.{all_on, not_all}
use Rattle.el_family.proofs.agreement.waits_fit.Goals as goal

pub returns-then-not-fits : goal.returns-then-not-fits
returns-then-not-fits c =
    not_all (fits c.args.pid c.args.code) (events_of c.args.log.now) c.loop-place.place c.in-Some.event.now (sym c.in-Some.ensures) (sym c.fits.ensures ∙ c.if-not-fits.true) c.loop-place.invariant

pub loop-place-preserved : goal.loop-place-preserved
loop-place-preserved c =
    all_on (fits c.args.pid c.args.code) (events_of c.args.log.now) c.loop-place.place c.in-Some.event.now (sym c.in-Some.ensures) (sym c.fits.ensures ∙ c.if-not-fits.false) c.loop-place.invariant

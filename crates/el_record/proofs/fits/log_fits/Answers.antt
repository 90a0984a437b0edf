use Rattle.std.proofs.Common.{◌≤◌, length, sym, subst}
use Rattle.el_world.specs.Log.{events_of}
use Rattle.el_world.specs.Lawful.{is_lawful}
use Rattle.el_record.specs.Recordable.{has_word}
use Rattle.el_record.proofs.LogFits.{event_before_rest, none_left, each_passes}
use Rattle.el_record.proofs.fits.log_fits.Goals as goal

pub loop-place-preserved : goal.loop-place-preserved
loop-place-preserved c = λ rest. c.loop-place.invariant (event_before_rest (events_of c.args.log.now) c.loop-place.place c.in-Some.event.now (sym c.in-Some.ensures) c.in_ok-lawful_fits.ensures rest)

pub returns : goal.returns
returns c =
    let past : length (events_of c.args.log.now) ≤ c.loop-place.place = subst (λ count. count ≤ c.loop-place.place) c.len-place-end.ensures c.loop-place-test.false in
    c.loop-place.invariant (none_left (events_of c.args.log.now) c.loop-place.place past)

pub lawful_fits-requires-clause-lawful : goal.lawful_fits-requires-clause-lawful
lawful_fits-requires-clause-lawful c = each_passes is_lawful (events_of c.args.log.now) c.loop-place.place c.in-Some.event.now c.requires.lawful (sym c.in-Some.ensures)

pub lawful_fits-requires-clause-word : goal.lawful_fits-requires-clause-word
lawful_fits-requires-clause-word c = each_passes has_word (events_of c.args.log.now) c.loop-place.place c.in-Some.event.now c.requires.words (sym c.in-Some.ensures)

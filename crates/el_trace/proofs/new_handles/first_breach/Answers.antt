use Rattle.el_room.proofs.Vocabulary.{events_of, option_copied}
use Rattle.std.proofs.Common.{suc, ◌+◌, ◌∙◌, sym, ap, subst, arith}
use Rattle.el_trace.specs.NewHandles.{first_number, BreakNumbersAt, keep_numbers}
use Rattle.el_trace.proofs.NewHandles.{here, some_within, keep_on, break_on, break_here}
use Rattle.el_trace.proofs.new_handles.first_breach.Goals as goal
use Rattle.std.proofs.Common.{drop}

pub unreachable-requires : goal.unreachable-requires
unreachable-requires c = some_within (events_of c.args.log.now) c.loop-place.place (omega (arith, c.loop-place-test.true, c.len-place-end.ensures)) (ap option_copied (sym c.in_default.is) ∙ c.get.ensures)

pub returns-in-None : goal.returns-in-None
returns-in-None c =
    let events = events_of c.args.log.now in
    let event = c.in-Some.event.now in
    subst (λ at. BreakNumbersAt first_number events at) (omega arith)
    (c.loop-place.invariant.1 0 (break_here events c.loop-place.place (c.loop-place.greatest + 1) event (here events c.loop-place.place event c.in-Some.ensures) c.in-None.ensures))

pub loop-place-preserved : goal.loop-place-preserved
loop-place-preserved c =
    let events = events_of c.args.log.now in
    let event = c.in-Some.event.now in
    let first = here events c.loop-place.place event c.in-Some.ensures in
    let next = c.in-Some-raised.ensures.1 in (
      λ rest. c.loop-place.invariant.0 (keep_on events c.loop-place.place (c.loop-place.greatest + 1) event first c.in-Some-raised.ensures.0 (sym (ap (λ n. keep_numbers n (drop (c.loop-place.place + 1) events)) next) ∙ rest)),
      λ at rest. subst (λ at. BreakNumbersAt first_number events at) (omega arith)
          (c.loop-place.invariant.1 (suc at) (break_on events c.loop-place.place (c.loop-place.greatest + 1) event first c.in-Some-raised.ensures.0 at (subst (λ n. BreakNumbersAt n (drop (c.loop-place.place + 1) events) at) next rest))),
    )

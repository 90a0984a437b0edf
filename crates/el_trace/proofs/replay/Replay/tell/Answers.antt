use Rattle.el_room.proofs.Vocabulary.{events_of, given_by, Gave, counted}
use Rattle.std.proofs.Common.{◌+◌, ◌-◌, ◌^◌, min, [], ◌∷◌, ◌++◌, drop, sym, ap, subst, ◌∙◌, arith, true≢false, if◌then◌else◌}
use Rattle.el_world.proofs.Inside.{counted-min}
use Rattle.el_trace.specs.Replays.{Replaying, seen_of, Fits, behind, IsSound}
use Rattle.el_trace.proofs.Replaying.{some_left, fits_lawful, fits_new, gave, behind_is, sound-behind}
use Rattle.el_trace.proofs.replay.Replay.tell.Goals as goal

pub place_behind-at-requires : goal.place_behind-at-requires
place_behind-at-requires c = some_left c.args.self.now.left c.args.event c.args.fits c.requires.fits

pub unreachable-requires : goal.unreachable-requires
unreachable-requires c =
    let fits = subst (λ (replay : Replaying). Fits replay.left c.args.event c.args.fits) (sym c.self.view_is) c.requires.fits in
    true≢false (sym (fits_new _ c.self.invariant c.args.event c.args.fits fits) ∙ c.in_default.ensures)

pub invariant_of-self : goal.invariant_of-self
invariant_of-self c = rw (c.make_room.ensures.events, c.make_room.ensures.closes) c.self.invariant

pub returns-in_err-make_room-clause-lawful : goal.returns-in_err-make_room-clause-lawful
returns-in_err-make_room-clause-lawful c = fits_lawful _ c.self.invariant c.args.event c.args.fits (subst (λ (replay : Replaying). Fits replay.left c.args.event c.args.fits) (sym c.self.view_is) c.requires.fits)

pub invariant_of-self-2 : goal.invariant_of-self-2
invariant_of-self-2 c =
    let old : Replaying = record { recorded = events_of c.self.inside.recorded.now; log = c.self.inside.tape.events; left = drop c.self.inside.at (events_of c.self.inside.recorded.now); faults = c.self.inside.faults; next = c.self.inside.greatest + 1 } in
    let fits = subst (λ (replay : Replaying). Fits replay.left c.args.event c.args.fits) (sym c.self.view_is) c.requires.fits in
    let log = c.put.ensures.events ∙ ap (λ events. events ++ c.args.event ∷ []) c.make_room.ensures.events in
    let left =
    ap (λ (replay : Replaying). drop c.place_behind-at.result replay.recorded) c.self.view_is ∙ c.place_behind-at.ensures
    ∙ ap (λ (replay : Replaying). if c.args.fits then drop 1 replay.left else []) (sym c.self.view_is) in
    let faults =
    c.saturating_add-self-inside.ensures ∙ ap (λ n. min (c.self.inside.faults + n) (2 ^ 64 - 1)) c.from.ensures ∙ counted-min c.is_fault-failed.result c.self.inside.faults (omega (arith, c.self.ranges))
    ∙ ap (λ failed. counted failed c.self.inside.faults) c.is_fault-failed.ensures in
    subst (λ (replay : Replaying). IsSound replay c.put.new.self.closes) (sym (behind_is old c.args.event c.args.fits _ _ _ _ log left faults c.in-Some.ensures.1))
    (sound-behind old c.self.invariant c.args.event c.args.fits fits c.requires.adds _ (omega (arith, c.put.ensures.closes, c.make_room.ensures.closes, c.given_count-given.ensures.count)))

pub returns-clause-ok : goal.returns-clause-ok
returns-clause-ok c =
    let old : Replaying = record { recorded = events_of c.self.inside.recorded.now; log = c.self.inside.tape.events; left = drop c.self.inside.at (events_of c.self.inside.recorded.now); faults = c.self.inside.faults; next = c.self.inside.greatest + 1 } in
    let log = c.put.ensures.events ∙ ap (λ events. events ++ c.args.event ∷ []) c.make_room.ensures.events in
    let left =
    ap (λ (replay : Replaying). drop c.place_behind-at.result replay.recorded) c.self.view_is ∙ c.place_behind-at.ensures
    ∙ ap (λ (replay : Replaying). if c.args.fits then drop 1 replay.left else []) (sym c.self.view_is) in
    let faults =
    c.saturating_add-self-inside.ensures ∙ ap (λ n. min (c.self.inside.faults + n) (2 ^ 64 - 1)) c.from.ensures ∙ counted-min c.is_fault-failed.result c.self.inside.faults (omega (arith, c.self.ranges))
    ∙ ap (λ failed. counted failed c.self.inside.faults) c.is_fault-failed.ensures in
    behind_is old c.args.event c.args.fits _ _ _ _ log left faults c.in-Some.ensures.1 ∙ ap (λ (replay : Replaying). behind replay c.args.event c.args.fits) c.self.view_is

pub returns-clause-lawful : goal.returns-clause-lawful
returns-clause-lawful c = fits_lawful _ c.self.invariant c.args.event c.args.fits (subst (λ (replay : Replaying). Fits replay.left c.args.event c.args.fits) (sym c.self.view_is) c.requires.fits)

pub returns-clause-gave : goal.returns-clause-gave
returns-clause-gave c =
    let old : Replaying = record { recorded = events_of c.self.inside.recorded.now; log = c.self.inside.tape.events; left = drop c.self.inside.at (events_of c.self.inside.recorded.now); faults = c.self.inside.faults; next = c.self.inside.greatest + 1 } in
    let fits = subst (λ (replay : Replaying). Fits replay.left c.args.event c.args.fits) (sym c.self.view_is) c.requires.fits in
    let log = c.put.ensures.events ∙ ap (λ events. events ++ c.args.event ∷ []) c.make_room.ensures.events in
    let left =
    ap (λ (replay : Replaying). drop c.place_behind-at.result replay.recorded) c.self.view_is ∙ c.place_behind-at.ensures
    ∙ ap (λ (replay : Replaying). if c.args.fits then drop 1 replay.left else []) (sym c.self.view_is) in
    let faults =
    c.saturating_add-self-inside.ensures ∙ ap (λ n. min (c.self.inside.faults + n) (2 ^ 64 - 1)) c.from.ensures ∙ counted-min c.is_fault-failed.result c.self.inside.faults (omega (arith, c.self.ranges))
    ∙ ap (λ failed. counted failed c.self.inside.faults) c.is_fault-failed.ensures in
    subst (λ (replay : Replaying). Gave (seen_of c.args.self.now) (seen_of replay) (given_by c.args.event)) (sym (behind_is old c.args.event c.args.fits _ _ _ _ log left faults c.in-Some.ensures.1))
    (subst (λ (replay : Replaying). Gave (seen_of replay) (seen_of (behind old c.args.event c.args.fits)) (given_by c.args.event)) c.self.view_is (gave old c.self.invariant c.args.event c.args.fits fits c.requires.adds))

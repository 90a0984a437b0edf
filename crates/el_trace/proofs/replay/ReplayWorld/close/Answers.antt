use Rattle.el_room.proofs.Vocabulary.{events_of, extended, is_held, without, held_after_all, Close}
use Rattle.std.proofs.Common.{◌≡◌, [], ◌∷◌, ◌++◌, ◌+◌, Some, true, filter, drop, ap, sym, subst, ◌∙◌, if◌then◌else◌}
use Rattle.el_world.specs.Handles.{is_given}
use Rattle.el_trace.specs.Replays.{Replaying, seen_of, Fits, IsSound}
use Rattle.el_trace.proofs.Replaying.{some_left, some_due, closed_is, sound-closed, held-closed}
use Rattle.el_trace.proofs.Replies.{close_fits}
use Rattle.el_trace.proofs.replay.ReplayWorld.close.Goals as goal

pub place_behind-at-requires : goal.place_behind-at-requires
place_behind-at-requires c =
    some_left c.args.self.now.left (Close c.args.handle) c.is_some-fits.result (close_fits c.args.self.now.left c.args.handle _ c.close_answer.result c.is_some-fits.result c.due.ensures c.close_answer.ensures c.is_some-fits.ensures)

pub put_close-requires : goal.put_close-requires
put_close-requires c = some_due _ c.self.invariant c.args.handle (subst (λ (replay : Replaying). is_held (seen_of replay).held c.args.handle ≡ true) (sym c.self.view_is) c.requires)

pub invariant_of-self : goal.invariant_of-self
invariant_of-self c =
    let old : Replaying = record { recorded = events_of c.self.inside.recorded.now; log = c.self.inside.tape.events; left = drop c.self.inside.at (events_of c.self.inside.recorded.now); faults = c.self.inside.faults; next = c.self.inside.greatest + 1 } in
    let fits = close_fits c.args.self.now.left c.args.handle _ c.close_answer.result c.is_some-fits.result c.due.ensures c.close_answer.ensures c.is_some-fits.ensures in
    let left =
    ap (λ (replay : Replaying). drop c.place_behind-at.result replay.recorded) c.self.view_is ∙ c.place_behind-at.ensures
    ∙ ap (λ (replay : Replaying). if c.is_some-fits.result then drop 1 replay.left else []) (sym c.self.view_is) in
    subst (λ (replay : Replaying). IsSound replay c.put_close.new.self.closes) (sym (closed_is old c.args.handle c.is_some-fits.result _ _ c.put_close.ensures.events left))
    (sound-closed old c.self.invariant c.args.handle c.is_some-fits.result
    (subst (λ (replay : Replaying). Fits replay.left (Close c.args.handle) c.is_some-fits.result) (sym c.self.view_is) fits)
    (subst (λ (replay : Replaying). is_held (seen_of replay).held c.args.handle ≡ true) (sym c.self.view_is) c.requires)
    _ c.put_close.ensures.closes)

pub returns-clause-log : goal.returns-clause-log
unfolding extended
returns-clause-log c = ap Some (c.put_close.ensures.events ∙ ap (λ (replay : Replaying). replay.log ++ Close c.args.handle ∷ []) c.self.view_is)

pub returns-clause-held : goal.returns-clause-held
returns-clause-held c =
    ap (λ log. filter is_given (held_after_all [] log)) c.put_close.ensures.events ∙ held-closed c.self.inside.tape.events c.args.handle
    ∙ ap (λ (replay : Replaying). without (filter is_given (held_after_all [] replay.log)) c.args.handle) c.self.view_is

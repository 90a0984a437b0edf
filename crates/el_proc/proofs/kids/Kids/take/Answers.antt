use Rattle.std.proofs.Common.{sym, ap, ◌∙◌}
use Rattle.std.specs.List.{remove}
use Rattle.el_proc.proofs.Leaving.{kid_found, kids_left, no_kid, all_left}
use Rattle.el_proc.proofs.kids.Kids.take.Goals as goal

pub returns-in_err-place-clause-taken : goal.returns-in_err-place-clause-taken
returns-in_err-place-clause-taken c = c.from_residual.ensures ∙ no_kid c.args.number c.args.self.now (rw (sym c.self.view_is, sym c.deref.ensures.value) (sym c.in_err-place.ensures.place))

pub returns-in_err-place-clause-left : goal.returns-in_err-place-clause-left
returns-in_err-place-clause-left c = all_left c.args.number c.args.self.now (rw (sym c.self.view_is, sym c.deref.ensures.value) (sym c.in_err-place.ensures.place))

pub returns-clause-taken : goal.returns-clause-taken
returns-clause-taken c =
    kid_found c.args.number c.args.self.now c.in_ok-place.place (rw (sym c.self.view_is, sym c.deref.ensures.value) (sym c.in_ok-place.ensures.place)) c.remove.result (rw (sym c.self.view_is) c.remove.ensures.value)

pub returns-clause-left : goal.returns-clause-left
returns-clause-left c =
    c.remove.ensures.items ∙ ap (λ pids. remove pids c.in_ok-place.place) c.self.view_is ∙ kids_left c.args.number c.args.self.now c.in_ok-place.place (rw (sym c.self.view_is, sym c.deref.ensures.value) (sym c.in_ok-place.ensures.place))

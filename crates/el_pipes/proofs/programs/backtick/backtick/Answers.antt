use Rattle.el_room.proofs.Vocabulary.{plan_then, plan_stopped, plan_assoc, refused_then, acting, acted}
use Rattle.std.proofs.Common.{sym, ◌∙◌}
use Rattle.el_pipes.specs.Backtick.{backtick}
use Rattle.el_pipes.proofs.programs.backtick.backtick.Goals as goal

pub returns-then-not-names_well : goal.returns-then-not-names_well
unfolding acting backtick
returns-then-not-names_well g c =
    let bad = sym c.names_well.ensures ∙ c.if-not-names_well.true in
    acted (rw bad (refused_then _ c.refused.ensures.run)) c.refused.ensures.usable

pub returns-in_err-output : goal.returns-in_err-output
unfolding acting backtick
returns-in_err-output g c =
    let good = sym c.names_well.ensures ∙ c.if-not-names_well.false in
    let written = rw c.in_ok-block.ensures at c.in_err-output.ensures.run in
    acted (rw good (plan_assoc _ _ _ (plan_stopped _ written c.from_residual-in_err-output.ensures.1))) c.in_err-output.ensures.usable

pub returns-in_err-value : goal.returns-in_err-value
unfolding acting backtick
returns-in_err-value g c =
    let good = sym c.names_well.ensures ∙ c.if-not-names_well.false in
    let written = rw (c.in_ok-output.ensures.state, c.in_ok-block.ensures) at c.in_ok-output.ensures.run in
    let value = rw c.in_ok-output.ensures.state at c.in_err-value.ensures.run in
    acted
    (rw (c.in_ok-output.ensures.state, good) (plan_assoc _ _ _ (plan_then _ written (plan_assoc _ _ _ (plan_stopped _ value c.from_residual-in_err-value.ensures.1)))))
    c.in_err-value.ensures.usable

pub returns : goal.returns
unfolding acting backtick
returns g c =
    let good = sym c.names_well.ensures ∙ c.if-not-names_well.false in
    let written = rw (c.in_ok-output.ensures.state, c.in_ok-block.ensures) at c.in_ok-output.ensures.run in
    let value = rw c.in_ok-output.ensures.state at c.in_ok-value.ensures.run in
    let gone = rw c.in_ok-output.ensures.state at c.go_on.ensures.run in
    acted (rw good (plan_assoc _ _ _ (plan_then _ written (plan_assoc _ _ _ (plan_then _ value gone))))) c.go_on.ensures.usable

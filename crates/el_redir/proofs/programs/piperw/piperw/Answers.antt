use Rattle.el_room.proofs.Vocabulary.{plan_then, plan_assoc, act_then, act_assoc, gives_then, follows_done, plan_stopped, act_short, refused_then, acting, acted}
use Rattle.std.proofs.Common.{refl}
use Rattle.el_redir.specs.Piperw.{piperw}
use Rattle.el_redir.proofs.programs.piperw.piperw.Goals as goal

pub returns-in_err-numbers : goal.returns-in_err-numbers
unfolding acting piperw
returns-in_err-numbers g c = acted (plan_assoc _ _ _ (plan_stopped _ c.in_err-numbers.ensures.run c.from_residual.ensures.1)) c.in_err-numbers.ensures.usable

pub returns-then-are_same : goal.returns-then-are_same
unfolding acting piperw
returns-then-are_same g c =
    let same = rw c.if-are_same.true at c.are_same.ensures in
    acted (plan_assoc _ _ _ (plan_then _ c.in_ok-numbers.ensures.run (rw (← same) (refused_then _ c.refused.ensures.run)))) c.refused.ensures.usable

pub returns-in_err-ends : goal.returns-in_err-ends
unfolding acting piperw
returns-in_err-ends g c =
    let apart = rw c.if-are_same.false at c.are_same.ensures in
    acted
    (plan_assoc _ _ _ (plan_then _ c.in_ok-numbers.ensures.run (rw (← apart) (act_assoc _ _ _ (act_short _ c.in_err-ends.ensures.run c.from_residual-in_err-ends.ensures.1)))))
    c.in_err-ends.ensures.usable

pub returns-in-Err : goal.returns-in-Err
unfolding acting piperw
returns-in-Err g c =
    let apart = rw c.if-are_same.false at c.are_same.ensures in
    acted
    (plan_assoc _ _ _ (plan_then _ c.in_ok-numbers.ensures.run
    (rw (← apart) (act_assoc _ _ _ (act_then _ (rw c.in-Err.is at c.in_ok-ends.ensures.run) (refused_then _ c.refused-in-Err.ensures.run))))))
    c.refused-in-Err.ensures.usable

pub returns-in-Ok : goal.returns-in-Ok
unfolding acting piperw
returns-in-Ok g c =
    let apart = rw c.if-are_same.false at c.are_same.ensures in
    let second = rw c.put_handle.ensures.fds at c.put_handle-in-Ok.ensures.run in
    acted
    (rw (c.into_rest.ensures, c.put_handle-in-Ok.ensures.fds, c.put_handle.ensures.fds)
    (plan_assoc _ _ _ (plan_then _ c.in_ok-numbers.ensures.run
    (rw (← apart) (act_assoc _ _ _ (act_then _ (rw c.in-Ok.is at c.in_ok-ends.ensures.run)
    (act_assoc _ _ _ (act_then _ c.put_handle.ensures.run (act_assoc _ _ _ (act_then _ second (gives_then _ _ (follows_done refl))))))))))))
    c.put_handle-in-Ok.ensures.usable

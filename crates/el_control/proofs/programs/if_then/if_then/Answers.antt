use Rattle.el_room.proofs.Vocabulary.{plan_then, plan_stopped, plan_assoc, gives_then, ends_then, follows_done, follows_exit, acting, acted}
use Rattle.std.proofs.Common.{refl}
use Rattle.el_control.specs.If.{if_then}
use Rattle.el_control.proofs.programs.if_then.if_then.Goals as goal

pub returns-in_err-holds : goal.returns-in_err-holds
unfolding acting if_then
returns-in_err-holds g c = acted (plan_assoc _ _ _ (plan_stopped _ c.in_err-holds.ensures.run c.from_residual.ensures.1)) c.in_err-holds.ensures.usable

pub returns-then-holds : goal.returns-then-holds
unfolding acting if_then
returns-then-holds g c =
    let held = rw c.if-holds.true at c.in_ok-holds.ensures.run in
    acted (rw c.into_rest.ensures (plan_assoc _ _ _ (plan_then _ held (gives_then _ _ (follows_done refl))))) c.in_ok-holds.ensures.usable

pub returns-else-holds : goal.returns-else-holds
unfolding acting if_then
returns-else-holds g c =
    let failed = rw c.if-holds.false at c.in_ok-holds.ensures.run in
    acted (rw c.failed_status.ensures (plan_assoc _ _ _ (plan_then _ failed (ends_then _ _ follows_exit)))) c.in_ok-holds.ensures.usable

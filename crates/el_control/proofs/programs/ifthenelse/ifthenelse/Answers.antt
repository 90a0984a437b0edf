use Rattle.el_room.proofs.Vocabulary.{plan_then, plan_stopped, plan_assoc, gives_then, follows_done, acting, acted}
use Rattle.std.proofs.Common.{refl}
use Rattle.el_control.specs.Ifthenelse.{ifthenelse}
use Rattle.el_control.proofs.programs.ifthenelse.ifthenelse.Goals as goal

pub returns-in_err-holds : goal.returns-in_err-holds
unfolding acting ifthenelse
returns-in_err-holds g c = acted (plan_assoc _ _ _ (plan_stopped _ c.in_err-holds.ensures.run c.from_residual.ensures.1)) c.in_err-holds.ensures.usable

pub returns-in_err-run_block : goal.returns-in_err-run_block
unfolding acting ifthenelse
returns-in_err-run_block g c =
    let run = rw c.branch-holds-2.ensures at c.in_err-run_block.ensures.run in
    acted
    (plan_assoc _ _ _ (plan_then _ c.in_ok-holds.ensures.run (plan_assoc _ _ _ (plan_stopped _ run c.from_residual-in_err-run_block.ensures.1))))
    c.in_err-run_block.ensures.usable

pub returns : goal.returns
unfolding acting ifthenelse
returns g c =
    let run = rw c.branch-holds-2.ensures at c.in_ok-run_block.ensures.run in
    acted
    (rw c.into_rest.ensures (plan_assoc _ _ _ (plan_then _ c.in_ok-holds.ensures.run (plan_assoc _ _ _ (plan_then _ run (gives_then _ _ (follows_done refl)))))))
    c.in_ok-run_block.ensures.usable

use Rattle.el_room.proofs.Vocabulary.{plan_then, plan_assoc, act_then, act_assoc, gives_then, follows_done, plan_stopped, act_short, refused_then, acting, acted}
use Rattle.std.proofs.Common.{refl}
use Rattle.el_redir.specs.Heredoc.{heredoc}
use Rattle.el_redir.proofs.programs.heredoc.heredoc.Goals as goal

pub returns-in_err-number : goal.returns-in_err-number
unfolding acting heredoc
returns-in_err-number g c = acted (plan_assoc _ _ _ (plan_stopped _ c.in_err-number.ensures.run c.from_residual.ensures.1)) c.in_err-number.ensures.usable

pub returns-in_err-handle : goal.returns-in_err-handle
unfolding acting heredoc
returns-in_err-handle g c =
    acted
    (plan_assoc _ _ _ (plan_then _ c.in_ok-number.ensures.run (act_assoc _ _ _ (act_short _ c.in_err-handle.ensures.run c.from_residual-in_err-handle.ensures.1))))
    c.in_err-handle.ensures.usable

pub returns-in-Err : goal.returns-in-Err
unfolding acting heredoc
returns-in-Err g c =
    acted
    (plan_assoc _ _ _ (plan_then _ c.in_ok-number.ensures.run (act_assoc _ _ _ (act_then _ (rw c.in-Err.is at c.in_ok-handle.ensures.run) (refused_then _ c.refused.ensures.run)))))
    c.refused.ensures.usable

pub returns-in-Ok : goal.returns-in-Ok
unfolding acting heredoc
returns-in-Ok g c =
    acted
    (rw (c.into_rest.ensures, c.put_handle.ensures.fds)
    (plan_assoc _ _ _ (plan_then _ c.in_ok-number.ensures.run
    (act_assoc _ _ _ (act_then _ (rw c.in-Ok.is at c.in_ok-handle.ensures.run) (act_assoc _ _ _ (act_then _ c.put_handle.ensures.run (gives_then _ _ (follows_done refl)))))))))
    c.put_handle.ensures.usable

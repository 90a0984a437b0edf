use Rattle.el_room.proofs.Vocabulary.{act_then, act_short, act_assoc, gives_then, follows_done, refused_then, acting, acted}
use Rattle.std.proofs.Common.{refl}
use Rattle.el_control.specs.Cd.{cd}
use Rattle.el_control.proofs.programs.cd.cd.Goals as goal

pub returns-in_err-dir : goal.returns-in_err-dir
unfolding acting cd
returns-in_err-dir g c = acted (act_assoc _ _ _ (act_short _ c.in_err-dir.ensures.run c.from_residual.ensures.1)) c.in_err-dir.ensures.usable

pub returns-in-Ok : goal.returns-in-Ok
unfolding acting cd
returns-in-Ok g c =
    acted
    (rw c.into_rest.ensures (act_assoc _ _ _ (act_then _ (rw c.in-Ok.is at c.in_ok-dir.ensures.run) (gives_then _ _ (follows_done refl)))))
    c.in_ok-dir.ensures.usable

pub returns-in-Err : goal.returns-in-Err
unfolding acting cd
returns-in-Err g c =
    acted (act_assoc _ _ _ (act_then _ (rw c.in-Err.is at c.in_ok-dir.ensures.run) (refused_then _ c.refused.ensures.run))) c.refused.ensures.usable

use Rattle.el_room.proofs.Vocabulary.{plan_then, plan_stopped, plan_assoc, gives_then, memory_short, follows_done, acting, acted}
use Rattle.std.proofs.Common.{refl}
use Rattle.el_control.specs.Ifte.{ifte}
use Rattle.el_control.proofs.programs.ifte.ifte.Goals as goal

pub returns-in_err-holds : goal.returns-in_err-holds
unfolding acting ifte
returns-in_err-holds g c =
    let tested = rw c.in_ok-rest.ensures at c.in_err-holds.ensures.run in
    acted (plan_assoc _ _ _ (plan_stopped _ tested c.from_residual-in_err-holds.ensures.1)) c.in_err-holds.ensures.usable

pub returns-in_err-proc : goal.returns-in_err-proc
unfolding acting ifte
returns-in_err-proc g c =
    let tested = rw c.in_ok-rest.ensures at c.in_ok-holds.ensures.run in
    acted (plan_assoc _ _ _ (plan_then _ tested (memory_short c.from_residual-in_err-proc.ensures.1))) c.in_ok-holds.ensures.usable

pub returns : goal.returns
unfolding acting ifte
returns g c =
    let tested = rw c.in_ok-rest.ensures at c.in_ok-holds.ensures.run in
    acted (rw (c.in_ok-proc.ensures, c.branch-holds-2.ensures) (plan_assoc _ _ _ (plan_then _ tested (gives_then _ _ (follows_done refl))))) c.in_ok-holds.ensures.usable

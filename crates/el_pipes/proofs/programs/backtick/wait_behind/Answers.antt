use Rattle.el_room.proofs.Vocabulary.{plan_then, plan_stopped, follows_done, follows_refused}
use Rattle.std.proofs.Common.{◌≡◌, None, refl, arith}
use Rattle.el_pipes.proofs.programs.backtick.wait_behind.Goals as goal

pub returns-in_default-clause-run : goal.returns-in_default-clause-run
returns-in_default-clause-run g c =
    let none : c.args.text ≡ None = grind arith in
    rw none (follows_refused c.refused.ensures.run)

pub returns-in_err-ended-clause-run : goal.returns-in_err-ended-clause-run
returns-in_err-ended-clause-run g c = rw c.in-Some.is (plan_stopped _ c.in_err-ended.ensures.run c.from_residual.ensures.1)

pub returns-clause-run : goal.returns-clause-run
returns-clause-run g c = rw c.in-Some.is (plan_then _ c.in_ok-ended.ensures.run (follows_done refl))

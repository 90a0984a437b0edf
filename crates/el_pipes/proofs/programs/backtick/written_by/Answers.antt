use Rattle.std.proofs.Common.{refl, sym, ◌∙◌}
use Rattle.el_world.proofs.Follows.{plan_then, plan_stopped, act_then, act_short, follows_done}
use Rattle.el_pipes.specs.Backtick.{written_by}
use Rattle.el_pipes.proofs.programs.backtick.written_by.Goals as goal

pub returns-in_err-ends-clause-run : goal.returns-in_err-ends-clause-run
unfolding written_by
returns-in_err-ends-clause-run g c = plan_stopped _ c.in_err-ends.ensures.run c.from_residual.ensures.1

pub returns-in_err-started-clause-run : goal.returns-in_err-started-clause-run
unfolding written_by
returns-in_err-started-clause-run g c = plan_then _ c.in_ok-ends.ensures.run (plan_stopped _ c.in_err-started.ensures.run c.from_residual-in_err-started.ensures.1)

pub returns-in-Some-clause-run : goal.returns-in-Some-clause-run
unfolding written_by
returns-in-Some-clause-run g c =
    let some = sym c.pid.ensures ∙ c.in-Some.is in
    plan_then _ c.in_ok-ends.ensures.run (plan_then _ c.in_ok-started.ensures.run (rw some c.read_from.ensures.run))

pub returns-in_err-code-in-None-clause-run : goal.returns-in_err-code-in-None-clause-run
unfolding written_by
returns-in_err-code-in-None-clause-run g c =
    let none = sym c.pid.ensures ∙ c.in-None.is in
    plan_then _ c.in_ok-ends.ensures.run
    (plan_then _ c.in_ok-started.ensures.run (rw none (act_then _ c.close_ends.ensures.run (act_short _ c.in_err-code-in-None.ensures.run c.from_residual-in_err-code-in-None.ensures.1))))

pub returns-in_ok-code-in-None-clause-run : goal.returns-in_ok-code-in-None-clause-run
unfolding written_by
returns-in_ok-code-in-None-clause-run g c =
    let none = sym c.pid.ensures ∙ c.in-None.is in
    rw c.no_output.ensures
    (plan_then _ c.in_ok-ends.ensures.run
    (plan_then _ c.in_ok-started.ensures.run (rw none (act_then _ c.close_ends.ensures.run (act_then _ c.in_ok-code-in-None.ensures.run (follows_done refl))))))

use Rattle.std.proofs.Common.{sym, ◌∙◌}
use Rattle.el_world.proofs.Follows.{plan_then, act_then, act_short, follows_done}
use Rattle.el_loops.specs.Forbacktickx.{over_pipe}
use Rattle.el_loops.proofs.programs.forbacktickx.turns_over_pipe.Goals as goal

pub returns-in-Some-clause-run : goal.returns-in-Some-clause-run
unfolding over_pipe
returns-in-Some-clause-run g c =
    let some = sym c.pid.ensures ∙ c.in-Some.is in
    plan_then _ c.in_ok-ends.ensures.run (plan_then _ c.in_ok-started.ensures.run (rw some (act_then _ c.close_end.ensures.run c.turns_over_reader.ensures.run)))

pub returns-in_err-tell_unstarted-in-None-clause-run : goal.returns-in_err-tell_unstarted-in-None-clause-run
unfolding over_pipe
returns-in_err-tell_unstarted-in-None-clause-run g c =
    let none = sym c.pid.ensures ∙ c.in-None.is in
    plan_then _ c.in_ok-ends.ensures.run
    (plan_then _ c.in_ok-started.ensures.run
    (rw none (act_then _ c.close_ends.ensures.run (act_short _ c.in_err-tell_unstarted-in-None.ensures.run c.from_residual-in_err-tell_unstarted-in-None.ensures.1))))

pub returns-in_ok-tell_unstarted-in-None-clause-run : goal.returns-in_ok-tell_unstarted-in-None-clause-run
unfolding over_pipe
returns-in_ok-tell_unstarted-in-None-clause-run g c =
    let none = sym c.pid.ensures ∙ c.in-None.is in
    plan_then _ c.in_ok-ends.ensures.run
    (plan_then _ c.in_ok-started.ensures.run
    (rw none (act_then _ c.close_ends.ensures.run (act_then _ c.in_ok-tell_unstarted-in-None.ensures.run (follows_done (sym c.new.ensures.items))))))

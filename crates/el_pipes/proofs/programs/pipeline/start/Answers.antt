use Rattle.std.proofs.Common.{sym}
use Rattle.el_world.proofs.Follows.{plan_then, act_then, act_short, follows_done}
use Rattle.el_pipes.specs.Pipeline.{starting_kid}
use Rattle.el_pipes.proofs.programs.pipeline.start.Goals as goal

pub returns-in_err-tell_unstarted-clause-run : goal.returns-in_err-tell_unstarted-clause-run
unfolding starting_kid
returns-in_err-tell_unstarted-clause-run g c =
    plan_then _ c.in_ok-started.ensures.run
    (act_then _ c.close_end.ensures.run (act_short _ c.in_err-tell_unstarted.ensures.run c.from_residual-in_err-tell_unstarted.ensures.1))

pub returns-clause-run : goal.returns-clause-run
unfolding starting_kid
returns-clause-run g c =
    plan_then _ c.in_ok-started.ensures.run (act_then _ c.close_end.ensures.run (act_then _ c.in_ok-tell_unstarted.ensures.run (follows_done (sym c.pid.ensures))))

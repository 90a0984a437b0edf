use Rattle.std.proofs.Common.{sym}
use Rattle.el_world.proofs.Follows.{act_then, act_short, follows_done}
use Rattle.el_control.specs.Background.{starting_kid}
use Rattle.el_control.proofs.programs.background.start.Goals as goal

pub returns-in_err-tell_unstarted-clause-run : goal.returns-in_err-tell_unstarted-clause-run
unfolding starting_kid
returns-in_err-tell_unstarted-clause-run g c = act_then _ (rw c.streams-streams.ensures at c.in-Ok.ensures.run) (act_short _ c.in_err-tell_unstarted.ensures.run c.from_residual.ensures.1)

pub returns-clause-run : goal.returns-clause-run
unfolding starting_kid
returns-clause-run g c = act_then _ (rw c.streams-streams.ensures at c.in-Ok.ensures.run) (act_then _ c.in_ok-tell_unstarted.ensures.run (follows_done (sym c.pid.ensures)))

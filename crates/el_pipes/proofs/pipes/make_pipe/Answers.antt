use Rattle.el_room.proofs.Vocabulary.{act_short, act_then, follows_done, follows_refused}
use Rattle.std.proofs.Common.{refl}
use Rattle.el_pipes.specs.Pipes.{piped}
use Rattle.el_pipes.proofs.pipes.make_pipe.Goals as goal

pub returns-in_err-ends-clause-run : goal.returns-in_err-ends-clause-run
unfolding piped
returns-in_err-ends-clause-run g c = act_short _ c.in_err-ends.ensures.run c.from_residual.ensures.1

pub returns-in-Ok-clause-run : goal.returns-in-Ok-clause-run
unfolding piped
returns-in-Ok-clause-run g c = act_then _ (rw c.in-Ok.is at c.in_ok-ends.ensures.run) (follows_done refl)

pub returns-in-Err-clause-run : goal.returns-in-Err-clause-run
unfolding piped
returns-in-Err-clause-run g c = act_then _ (rw c.in-Err.is at c.in_ok-ends.ensures.run) (follows_refused c.refused.ensures.run)

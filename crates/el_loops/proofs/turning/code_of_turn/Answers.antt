use Rattle.std.proofs.Common.{refl, sym}
use Rattle.el_world.proofs.Follows.{act_short, act_then, follows_done}
use Rattle.el_loops.specs.Turns.{turn_code}
use Rattle.el_loops.proofs.Breaks.{follows_broken, can_still}
use Rattle.el_loops.proofs.turning.code_of_turn.Goals as goal

pub returns-in-Over-clause-run : goal.returns-in-Over-clause-run
unfolding turn_code
returns-in-Over-clause-run g c = rw c.in-Over.is (follows_done refl)

pub returns-in_err-ended-in-Pending-clause-run : goal.returns-in_err-ended-in-Pending-clause-run
unfolding turn_code
returns-in_err-ended-in-Pending-clause-run g c = rw c.in-Pending.is (act_short _ c.in_err-ended-in-Pending.ensures.run c.from_residual.ensures.1)

pub returns-in-Ok-clause-run : goal.returns-in-Ok-clause-run
unfolding turn_code
returns-in-Ok-clause-run g c = rw c.in-Pending.is (act_then _ (rw c.in-Ok.is at c.in_ok-ended-in-Pending.ensures.run) (follows_done (sym c.code_of.ensures)))

pub returns-in-Ok-clause-more : goal.returns-in-Ok-clause-more
returns-in-Ok-clause-more g c = can_still c.in_ok-ended-in-Pending.ensures.held c.requires

pub returns-in-Err-clause-run : goal.returns-in-Err-clause-run
unfolding turn_code
returns-in-Err-clause-run g c = rw c.in-Pending.is (act_then _ (rw c.in-Err.is at c.in_ok-ended-in-Pending.ensures.run) (follows_broken c.break_off.ensures.run))

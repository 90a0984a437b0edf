use Rattle.std.proofs.Common.{sym}
use Rattle.el_world.proofs.Calls.{added-enter, done-enter, done_as}
use Rattle.el_world.proofs.call.enter.Goals as goal

pub returns-clause-run : goal.returns-clause-run
returns-clause-run g c = done_as (done-enter _ _ _ _ (added-enter _ _ _ c.enter.ensures.log c.enter.ensures.cause c.enter.ensures.handles)) (sym c.answered.ensures)

use Rattle.std.proofs.Common.{sym}
use Rattle.el_world.proofs.Calls.{added-wait, done-wait, done_as}
use Rattle.el_world.proofs.call.wait.Goals as goal

pub returns-clause-run : goal.returns-clause-run
returns-clause-run g c = done_as (done-wait _ _ (added-wait _ _ c.wait.ensures.log c.wait.ensures.cause c.wait.ensures.handles c.wait.ensures.signal)) (sym c.answered.ensures)

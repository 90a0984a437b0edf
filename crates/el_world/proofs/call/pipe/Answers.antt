use Rattle.std.proofs.Common.{sym}
use Rattle.el_world.proofs.Calls.{added-pipe, done-pipe, done_as}
use Rattle.el_world.proofs.call.pipe.Goals as goal

pub returns-clause-run : goal.returns-clause-run
returns-clause-run g c = done_as (done-pipe _ (added-pipe _ c.pipe.ensures.log c.pipe.ensures.cause c.pipe.ensures.handles)) (sym c.answered.ensures)

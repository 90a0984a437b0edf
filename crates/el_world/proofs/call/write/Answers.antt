use Rattle.std.proofs.Common.{sym}
use Rattle.el_world.proofs.Calls.{added-write, done-write, done_as}
use Rattle.el_world.proofs.call.write.Goals as goal

pub returns-clause-run : goal.returns-clause-run
returns-clause-run g c = done_as (done-write _ _ _ (added-write _ _ _ c.write.ensures.log c.write.ensures.cause c.write.ensures.handles c.requires)) (sym c.answered.ensures)

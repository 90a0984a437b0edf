use Rattle.std.proofs.Common.{sym}
use Rattle.el_world.proofs.Calls.{added-read, done-read, done_as}
use Rattle.el_world.proofs.call.read.Goals as goal

pub returns-clause-run : goal.returns-clause-run
returns-clause-run g c = done_as (done-read _ _ _ (added-read _ _ c.read.ensures.log c.read.ensures.cause c.read.ensures.handles c.read.ensures.piece c.requires)) (sym c.answered.ensures)

use Rattle.std.proofs.Common.{sym}
use Rattle.el_world.proofs.Calls.{added-open, done-open, done_as}
use Rattle.el_world.proofs.call.open_file.Goals as goal

pub returns-clause-run : goal.returns-clause-run
returns-clause-run g c = done_as (done-open _ _ _ _ (added-open _ _ _ _ c.open_file.ensures.log c.open_file.ensures.cause c.open_file.ensures.handles)) (sym c.answered.ensures)

use Rattle.std.proofs.Common.{sym}
use Rattle.el_world.proofs.Calls.{added-feed, done-feed, done_as}
use Rattle.el_world.proofs.call.feed.Goals as goal

pub returns-clause-run : goal.returns-clause-run
returns-clause-run g c = done_as (done-feed _ _ (added-feed _ _ c.feed.ensures.log c.feed.ensures.cause c.feed.ensures.handles)) (sym c.answered.ensures)

use Rattle.el_world.proofs.Calls.{added-close, done-close}
use Rattle.el_world.proofs.call.close.Goals as goal

pub returns-clause-run : goal.returns-clause-run
returns-clause-run g c = done-close _ (added-close _ c.close.ensures.log c.close.ensures.later c.close.ensures.held c.close.ensures.next c.close.ensures.origin c.requires)

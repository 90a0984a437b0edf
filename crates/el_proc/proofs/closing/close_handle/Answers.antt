use Rattle.el_proc.proofs.Changes.{usable_closed}
use Rattle.el_proc.proofs.closing.close_handle.Goals as goal

pub returns-clause-usable : goal.returns-clause-usable
returns-clause-usable g c = rw c.close.ensures.held (usable_closed _ c.args.fds.now c.args.handle c.requires.usable c.requires.apart)

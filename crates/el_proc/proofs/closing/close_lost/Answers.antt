use Rattle.el_proc.proofs.Changes.{usable_closed}
use Rattle.el_proc.proofs.closing.close_lost.Goals as goal

pub returns-in-Some-clause-usable : goal.returns-in-Some-clause-usable
returns-in-Some-clause-usable g c =
    let gone = rw c.in-Some.is at c.requires.gone in
    rw c.close.ensures.held (usable_closed _ c.args.fds.now c.in-Some.handle c.requires.usable gone)

use Rattle.el_pipes.proofs.Ends.{other_loose}
use Rattle.el_pipes.proofs.pipes.close_end.Goals as goal

pub returns-clause-other : goal.returns-clause-other
returns-clause-other g c =
    let held = rw c.end.ensures at c.close_handle.ensures.held in
    rw held (other_loose _ c.args.fds.now c.args.ends c.args.side c.requires.loose)

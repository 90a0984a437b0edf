use Rattle.el_pipes.proofs.Ends.{usable_with}
use Rattle.el_pipes.proofs.pipes.start.Goals as goal

pub start_child-requires : goal.start_child-requires
start_child-requires g c = rw (c.streams-streams.ensures, c.number.ensures.number, c.end.ensures) (usable_with _ c.args.proc.now.fds c.args.ends c.args.side c.requires.loose c.requires.usable)

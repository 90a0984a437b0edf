use Rattle.el_room.proofs.Vocabulary.{usable_held, usable_set, lost_is_held, lost_is_gone}
use Rattle.std.proofs.Common.{Some}
use Rattle.el_pipes.specs.Pipes.{number_at, end_at}
use Rattle.el_pipes.proofs.pipes.take_end.Goals as goal

pub close_lost-requires-clause-usable : goal.close_lost-requires-clause-usable
close_lost-requires-clause-usable g c =
    let fds = rw (c.number.ensures.number, c.end.ensures) at c.in-Ok.ensures.fds in
    let handle = end_at c.args.side c.args.ends in
    rw fds (usable_set _ c.args.fds.now (number_at c.args.side) (Some handle) c.requires.usable (usable_held _ handle c.requires.loose.is_open))

pub close_lost-requires-clause-held : goal.close_lost-requires-clause-held
close_lost-requires-clause-held g c = lost_is_held _ c.args.fds.now c.put.new.self c.in-Ok.lost c.in-Ok.ensures.lost c.requires.usable

pub close_lost-requires-clause-gone : goal.close_lost-requires-clause-gone
close_lost-requires-clause-gone g c = lost_is_gone c.args.fds.now c.put.new.self c.in-Ok.lost c.in-Ok.ensures.lost

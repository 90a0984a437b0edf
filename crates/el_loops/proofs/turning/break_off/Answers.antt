use Rattle.el_loops.proofs.turning.break_off.Goals as goal

pub close_lost-requires-clause-held : goal.close_lost-requires-clause-held
close_lost-requires-clause-held g c = c.requires.is_open

pub close_lost-requires-clause-gone : goal.close_lost-requires-clause-gone
close_lost-requires-clause-gone g c = c.requires.apart

pub returns-clause-run : goal.returns-clause-run
returns-clause-run g c = record { mid = g.W.World.seen c.close_lost.new.world; closed = c.close_lost.ensures.run; refused = c.refused.ensures.run }

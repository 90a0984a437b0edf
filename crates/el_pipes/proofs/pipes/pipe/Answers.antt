use Rattle.el_room.proofs.Vocabulary.{piped_handles, usable_given}
use Rattle.el_pipes.proofs.Ends.{ends_loose}
use Rattle.el_pipes.proofs.pipes.pipe.Goals as goal

pub returns-clause-usable : goal.returns-clause-usable
returns-clause-usable g c = usable_given (g.W.World.seen c.args.world.now) (g.W.World.seen c.pipe.new.world) c.pipe.result piped_handles c.args.fds.now c.pipe.ensures.held c.requires

pub returns-clause-loose : goal.returns-clause-loose
returns-clause-loose g c =
    ends_loose (g.W.World.seen c.args.world.now) (g.W.World.seen c.pipe.new.world) c.args.fds.now c.pipe.result c.pipe.ensures.run c.requires c.pipe.ensures.reader c.pipe.ensures.writer

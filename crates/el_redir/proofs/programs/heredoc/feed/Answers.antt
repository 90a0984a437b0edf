use Rattle.el_room.proofs.Vocabulary.{opened_handles, usable_given}
use Rattle.el_redir.proofs.programs.heredoc.feed.Goals as goal

pub returns-clause-usable : goal.returns-clause-usable
returns-clause-usable g c = usable_given (g.W.World.seen c.args.world.now) (g.W.World.seen c.feed.new.world) c.feed.result opened_handles c.args.proc.now.fds c.feed.ensures.held c.requires

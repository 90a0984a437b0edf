use Rattle.el_room.proofs.Vocabulary.{Fault, Handle, PipeEnds, Seen, are_usable, piped_handles, pipe_act, Done, ok_value, is_at_some, usable_given}
use Rattle.std.proofs.Common.{◌≡◌, true, false, List, Option, Result, Ok, Err, IfOk}
use Rattle.el_words.specs.declared.memory.NoMemory.{NoMemory}
use Rattle.el_proc.proofs.Piped.{writer_apart}
use Rattle.el_redir.proofs.programs.piperw.pipe.Goals as goal

writer_by : {old new : Seen} (fds : List (Option Handle)) (answer : Result (Result PipeEnds Fault) NoMemory) → Done old new pipe_act (ok_value answer) → are_usable old.held fds ≡ true
    → IfOk answer (λ inner. IfOk inner (λ ends. is_at_some fds ends.writer ≡ false))
writer_by fds (Ok (Ok ends)) done usable = writer_apart fds done usable
writer_by fds (Ok (Err fault)) done usable = tt
writer_by fds (Err error) done usable = tt

pub returns-clause-usable : goal.returns-clause-usable
returns-clause-usable g c = usable_given (g.W.World.seen c.args.world.now) (g.W.World.seen c.pipe.new.world) c.pipe.result piped_handles c.args.fds.now c.pipe.ensures.held c.requires

pub returns-clause-apart : goal.returns-clause-apart
returns-clause-apart g c = writer_by c.args.fds.now c.pipe.result c.pipe.ensures.run c.requires

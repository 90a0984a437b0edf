use Rattle.el_room.proofs.Vocabulary.{are_usable, state_of, read_of}
use Rattle.std.proofs.Common.{◌≡◌, true}
use Rattle.el_loops.proofs.RepeatsOn.{RepeatsOn}
use Rattle.el_loops.proofs.programs.loopwhilex.repeat.Given as goal

abbrev pub invariant-turns : goal.invariant-turns
invariant-turns g l = record {
  on : RepeatsOn (g.W.World.seen l.fn.world) (g.W.World.seen l.world) (read_of l.front) (state_of l.fn.proc) l.fn.proc.budget l.proc.budget;
  state : state_of l.proc ≡ state_of l.fn.proc;
  usable : are_usable (g.W.World.seen l.world).held l.proc.fds ≡ true;
}

abbrev pub decreases-turns : goal.decreases-turns
decreases-turns g l = l.proc.budget

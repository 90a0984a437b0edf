use Rattle.std.proofs.Common.{◌≡◌, true, length}
use Rattle.el_world.specs.Handles.{are_usable}
use Rattle.el_proc.specs.Descriptors.{given_handles, without_given}
use Rattle.el_proc.proofs.Closings.{ClosesOn}
use Rattle.el_proc.proofs.closing.close_given.Given as goal

abbrev pub invariant-handles : goal.invariant-handles
invariant-handles g l = record {
  closes : ClosesOn (g.W.World.seen l.fn.world) (g.W.World.seen l.world) (given_handles l.fn.fds) (given_handles l.fds);
  own : without_given l.fds ≡ without_given l.fn.fds;
  usable : are_usable (g.W.World.seen l.world).held l.fds ≡ true;
}

abbrev pub decreases-handles : goal.decreases-handles
decreases-handles g l = length (given_handles l.fds)

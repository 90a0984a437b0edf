use Rattle.std.proofs.Common.{◌≡◌, ◌≤◌}
use Rattle.el_proc.specs.Processes.{state_of}
use Rattle.el_proc.proofs.GathersOn.{GathersOn}
use Rattle.el_proc.proofs.gathering.gather.Given as goal

abbrev pub invariant-pieces : goal.invariant-pieces
invariant-pieces g l = record {
  on : GathersOn (g.W.World.seen l.fn.world) (g.W.World.seen l.world) (state_of l.fn.proc) l.handle l.fn.proc.budget l.proc.budget l.text;
  state : state_of l.proc ≡ state_of l.fn.proc;
  words : l.proc.words ≡ l.fn.proc.words;
  held : (g.W.World.seen l.world).held ≡ (g.W.World.seen l.fn.world).held;
  later : (g.W.World.seen l.fn.world).faults ≤ (g.W.World.seen l.world).faults;
}

abbrev pub decreases-pieces : goal.decreases-pieces
decreases-pieces g l = l.proc.budget

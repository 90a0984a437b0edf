use Rattle.std.proofs.Common.{◌≡◌}
use Rattle.el_proc.specs.Processes.{state_of}
use Rattle.el_loops.specs.Loops.{looping_of, MayTurn}
use Rattle.el_loops.proofs.ReadsOn.{ReadsOn}
use Rattle.el_loops.proofs.values.turns_over.Given as goal

abbrev pub invariant-pieces : goal.invariant-pieces
invariant-pieces g l = record {
  on : ReadsOn (g.W.World.seen l.fn.world) (g.W.World.seen l.world) (looping_of l.each (state_of l.fn.proc)) l.handle l.fn.proc.budget l.proc.budget l.splitter l.all.made.items;
  may : MayTurn (g.W.World.seen l.world).held l.each l.proc l.all.env;
  state : state_of l.proc ≡ state_of l.fn.proc;
}

abbrev pub decreases-pieces : goal.decreases-pieces
decreases-pieces g l = l.proc.budget

use Rattle.std.proofs.Common.{◌≡◌}
use Rattle.el_proc.specs.Processes.{state_of}
use Rattle.el_loops.specs.Loops.{looping_of, MayTurn}
use Rattle.el_loops.specs.Turns.{turns}
use Rattle.el_loops.proofs.Leads.{Leads}
use Rattle.el_loops.proofs.turning.make_turns.Given as goal

abbrev pub invariant-loop-value : goal.invariant-loop-value
invariant-loop-value g l = record {
  on : Leads (Unit {0}) (g.W.World.seen l.fn.world) (g.W.World.seen l.world) (turns (looping_of l.each (state_of l.fn.proc)) l.fn.all.made.items l.values) l.fn.proc.budget (turns (looping_of l.each (state_of l.fn.proc)) l.all.made.items l.value-iterator) l.proc.budget (state_of l.fn.proc);
  may : MayTurn (g.W.World.seen l.world).held l.each l.proc l.all.env;
  state : state_of l.proc ≡ state_of l.fn.proc;
}

use Rattle.std.proofs.Common.{ℕ, drop, Option, None}
use Rattle.el_proc.specs.Processes.{state_of}
use Rattle.el_loops.specs.Loops.{looping_of, CanTurn}
use Rattle.el_loops.specs.Turns.{first_ending}
use Rattle.el_loops.proofs.Leads.{Leads}
use Rattle.el_loops.proofs.turning.first_ending.Given as goal

abbrev pub invariant-loop-place : goal.invariant-loop-place
invariant-loop-place g l = record {
  on : Leads (Option ℕ) (g.W.World.seen l.fn.world) (g.W.World.seen l.world) (first_ending (looping_of l.each (state_of l.proc)) None l.made) l.proc.budget (first_ending (looping_of l.each (state_of l.proc)) l.found (drop l.place l.made)) l.proc.budget (state_of l.proc);
  can : CanTurn (g.W.World.seen l.world).held l.proc.fds l.each;
}

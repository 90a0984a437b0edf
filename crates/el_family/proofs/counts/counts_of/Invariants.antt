use Rattle.std.proofs.Common.{drop}
use Rattle.el_world.specs.Log.{events_of}
use Rattle.el_family.proofs.Walks.{Counting}
use Rattle.el_family.proofs.counts.counts_of.Given as goal

abbrev pub invariant-loop-place : goal.invariant-loop-place
invariant-loop-place l = Counting (events_of l.log) (drop l.place (events_of l.log)) l.counts

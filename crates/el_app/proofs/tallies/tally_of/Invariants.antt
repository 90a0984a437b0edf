use Rattle.std.proofs.Common.{drop}
use Rattle.el_world.specs.Log.{events_of}
use Rattle.el_app.proofs.Tallying.{Counting}
use Rattle.el_app.proofs.tallies.tally_of.Given as goal

abbrev pub invariant-loop-place : goal.invariant-loop-place
invariant-loop-place l = Counting (events_of l.log) (drop l.place (events_of l.log)) l.numbers l.tally

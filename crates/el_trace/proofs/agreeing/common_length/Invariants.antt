use Rattle.std.proofs.Common.{ℕ, ◌+◌, drop}
use Rattle.el_world.specs.Log.{events_of}
use Rattle.el_trace.specs.Agreeing.{AgreeUpto}
use Rattle.el_trace.proofs.agreeing.common_length.Given as goal

-- as far as what is left agrees, all does
abbrev pub invariant-loop-place : goal.invariant-loop-place
invariant-loop-place l = (at : ℕ) → AgreeUpto at (drop l.place (events_of l.one)) (drop l.place (events_of l.other)) → AgreeUpto (l.place + at) (events_of l.one) (events_of l.other)

use Rattle.std.proofs.Common.{◌≡◌, ℕ, List, ◌++◌, drop}
use Rattle.el_world.specs.Log.{events_of}
use Rattle.el_trace.specs.Lines.{shown_events}
use Rattle.el_trace.proofs.lines.put_events.Given as goal

-- what is shown, and what is to be shown
abbrev pub invariant-loop-place : goal.invariant-loop-place
invariant-loop-place l = (rest : List ℕ) → l.out ++ shown_events l.place (drop l.place (events_of l.log)) rest ≡ l.fn.out ++ shown_events 0 (events_of l.log) rest

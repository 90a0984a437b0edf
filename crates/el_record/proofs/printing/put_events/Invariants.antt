use Rattle.std.proofs.Common.{◌≡◌, ℕ, List, ◌++◌, drop}
use Rattle.el_world.specs.Log.{events_of}
use Rattle.el_record.specs.TraceText.{events_before}
use Rattle.el_record.proofs.printing.put_events.Given as goal

-- what is printed, and what is to be printed
abbrev pub invariant-loop-place : goal.invariant-loop-place
invariant-loop-place l = (rest : List ℕ) → l.out ++ events_before (drop l.place (events_of l.log)) rest ≡ l.fn.out ++ events_before (events_of l.log) rest

use Rattle.std.proofs.Common.{◌≡◌, ℕ, ◌+◌, true, drop}
use Rattle.el_world.specs.Log.{events_of}
use Rattle.el_trace.specs.NewHandles.{first_number, keep_numbers, BreakNumbersAt}
use Rattle.el_trace.proofs.new_handles.first_breach.Given as goal

-- what is found in what is left is found in all
abbrev pub invariant-loop-place : goal.invariant-loop-place
invariant-loop-place l =
    (keep_numbers (l.greatest + 1) (drop l.place (events_of l.log)) ≡ true → keep_numbers first_number (events_of l.log) ≡ true)
    × ((at : ℕ) → BreakNumbersAt (l.greatest + 1) (drop l.place (events_of l.log)) at → BreakNumbersAt first_number (events_of l.log) (l.place + at))

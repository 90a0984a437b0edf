use Rattle.std.proofs.Common.{◌≤◌}
use Rattle.el_rows.proofs.main.Given as goal

-- No more rows differ than were run.
abbrev pub invariant-loop-row : goal.invariant-loop-row
invariant-loop-row l = l.differing ≤ l.row-index

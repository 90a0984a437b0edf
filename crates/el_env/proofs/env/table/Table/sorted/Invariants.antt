use Rattle.std.proofs.Common.{length}
use Rattle.el_env.proofs.Sorting.{IsSorting}
use Rattle.el_env.proofs.env.table.Table.sorted.Given as goal

abbrev pub invariant-loop-variable : goal.invariant-loop-variable
invariant-loop-variable l = IsSorting l.own.items l.sorted.items l.fn.self

abbrev pub decreases-loop-variable : goal.decreases-loop-variable
decreases-loop-variable l = length l.own.items

use Rattle.std.proofs.Common.{◌≡◌, ◌+◌, ◌++◌}
use Rattle.el_lint.specs.Allowances.{is_newline, allowances_from, allowances_of}
use Rattle.el_lint.specs.Lines.{pieces_behind, size_behind}
use Rattle.el_lint.proofs.allowance.allowances_of.Given as goal

-- the comments so far, and those of the lines that are left
abbrev pub invariant-loop-left : goal.invariant-loop-left
invariant-loop-left l = l.allowances.items ++ allowances_from (l.line + 1) (pieces_behind is_newline l.left) ≡ allowances_of l.script

abbrev pub decreases-loop-left : goal.decreases-loop-left
decreases-loop-left l = size_behind l.left

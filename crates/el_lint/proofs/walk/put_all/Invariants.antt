use Rattle.std.proofs.Common.{◌≡◌, ◌++◌, length}
use Rattle.std.specs.Vec.Iter.{into_iter_items, into_iter_len}
use Rattle.el_lint.specs.Findings.{all_found_on}
use Rattle.el_lint.proofs.walk.put_all.Given as goal

-- the findings so far, and those that the lints are that are left
abbrev pub invariant-loop-lint : goal.invariant-loop-lint
invariant-loop-lint l =
    (l.findings.items ++ all_found_on l.allowances l.line (into_iter_items l.lint-iterator) ≡ l.fn.findings.items ++ all_found_on l.allowances l.line l.fn.lints.items)
    × (into_iter_len l.lint-iterator ≡ length (into_iter_items l.lint-iterator))

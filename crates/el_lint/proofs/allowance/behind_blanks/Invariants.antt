use Rattle.std.proofs.Common.{◌≡◌, length}
use Rattle.el_lint.specs.Allowances.{behind_blanks}
use Rattle.el_lint.proofs.allowance.behind_blanks.Given as goal

abbrev pub invariant-loop-rest : goal.invariant-loop-rest
invariant-loop-rest l = behind_blanks l.text ≡ behind_blanks l.rest

abbrev pub decreases-loop-rest : goal.decreases-loop-rest
decreases-loop-rest l = length l.rest

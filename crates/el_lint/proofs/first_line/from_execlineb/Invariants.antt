use Rattle.std.proofs.Common.{◌≡◌, length}
use Rattle.el_lint.specs.FirstLines.{from_execlineb}
use Rattle.el_lint.proofs.first_line.from_execlineb.Given as goal

-- the words that are left have the same answer
abbrev pub invariant-loop-words : goal.invariant-loop-words
invariant-loop-words l = from_execlineb l.words ≡ from_execlineb l.initial.words

abbrev pub decreases-loop-words : goal.decreases-loop-words
decreases-loop-words l = length l.words

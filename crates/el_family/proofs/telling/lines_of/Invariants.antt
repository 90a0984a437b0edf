use Rattle.std.proofs.Common.{◌≡◌, ◌++◌, drop}
use Rattle.el_family.specs.Reports.{lines_from}
use Rattle.el_family.proofs.telling.lines_of.Given as goal

-- the lines so far, and those that are to come
abbrev pub invariant-loop-number : goal.invariant-loop-number
invariant-loop-number l = l.lines ++ lines_from l.number (drop l.number l.family) ≡ lines_from 0 l.family

use Rattle.el_family.proofs.Whole.{Grows}
use Rattle.el_family.proofs.growing.whole_family.Given as goal

-- so many members have run
abbrev pub invariant-loop-number : goal.invariant-loop-number
invariant-loop-number l = Grows l.number l.fn.words l.budget l.family

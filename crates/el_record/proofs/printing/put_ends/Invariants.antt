use Rattle.std.proofs.Common.{◌≡◌, ℕ, List, ◌++◌, drop}
use Rattle.el_record.specs.TraceText.{ends_before}
use Rattle.el_record.proofs.printing.put_ends.Given as goal

-- what is printed, and what is to be printed
abbrev pub invariant-loop-end : goal.invariant-loop-end
invariant-loop-end l = (rest : List ℕ) → l.out ++ ends_before (drop l.end-index l.ends) rest ≡ l.fn.out ++ ends_before l.ends rest

use Rattle.std.proofs.Common.{◌≡◌, ℕ, List, ◌++◌, drop, map as mapped}
use Rattle.el_env.specs.Variable.{pair_of}
use Rattle.el_record.specs.TraceText.{pairs_before, env_before}
use Rattle.el_record.proofs.printing.put_env.Given as goal

-- what is printed, and what is to be printed
abbrev pub invariant-loop-variable : goal.invariant-loop-variable
invariant-loop-variable l = (rest : List ℕ) → l.out ++ pairs_before (mapped pair_of (drop l.variable-index l.variable-items)) rest ≡ l.fn.out ++ env_before l.env rest

use Rattle.std.proofs.Common.{◌≡◌, ℕ, List, ◌++◌, drop, map as mapped}
use Rattle.std.specs.FinMap as map
use Rattle.el_env.specs.Variable.{pair_of}
use Rattle.el_trace.specs.Lines.{pairs_shown}
use Rattle.el_trace.proofs.lines.put_env.Given as goal

-- what is shown, and what is to be shown
abbrev pub invariant-loop-variable : goal.invariant-loop-variable
invariant-loop-variable l = (rest : List ℕ) → l.out ++ pairs_shown (mapped pair_of (drop l.variable-index l.variable-items)) rest ≡ l.fn.out ++ pairs_shown (map.entries l.env) rest

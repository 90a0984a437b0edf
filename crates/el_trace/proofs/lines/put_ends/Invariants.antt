use Rattle.std.proofs.Common.{◌≡◌, ℕ, List, ◌++◌, drop}
use Rattle.el_trace.specs.Lines.{ends_shown}
use Rattle.el_trace.proofs.lines.put_ends.Given as goal

-- what is shown, and what is to be shown
abbrev pub invariant-loop-own : goal.invariant-loop-own
invariant-loop-own l = (rest : List ℕ) → l.out ++ ends_shown l.own (drop l.own l.ends) rest ≡ l.fn.out ++ ends_shown 0 l.ends rest

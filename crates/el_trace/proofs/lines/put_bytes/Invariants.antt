use Rattle.std.proofs.Common.{◌≡◌, ℕ, List, ◌++◌, drop}
use Rattle.el_trace.specs.Lines.{bytes_shown}
use Rattle.el_trace.proofs.lines.put_bytes.Given as goal

-- what is shown, and what is to be shown
abbrev pub invariant-loop-byte : goal.invariant-loop-byte
invariant-loop-byte l = (rest : List ℕ) → l.out ++ bytes_shown (drop l.byte-index l.bytes) rest ≡ l.fn.out ++ bytes_shown l.bytes rest

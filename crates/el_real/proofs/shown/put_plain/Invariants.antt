use Rattle.std.proofs.Common.{◌≡◌, ◌++◌, take}
use Rattle.el_real.specs.Shown.{plain}
use Rattle.el_real.proofs.shown.put_plain.Given as goal

abbrev pub invariant-loop-byte : goal.invariant-loop-byte
invariant-loop-byte l = l.line ≡ l.fn.line ++ plain (take l.byte-index l.bytes)

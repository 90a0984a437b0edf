use Rattle.std.proofs.Common.{◌≡◌, ◌++◌, drop}
use Rattle.std.specs.Prelude.{flat_map}
use Rattle.el_layout.specs.Layout.{escaped}
use Rattle.el_layout.proofs.quoting.print_quoted.Given as goal

-- what is printed, and what is to be printed
abbrev pub invariant-loop-byte : goal.invariant-loop-byte
invariant-loop-byte l = l.out ++ flat_map escaped (drop l.byte-index l.word) ≡ l.initial.out ++ flat_map escaped l.word

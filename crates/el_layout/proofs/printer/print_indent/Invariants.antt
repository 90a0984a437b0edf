use Rattle.std.proofs.Common.{◌≡◌, ◌++◌}
use Rattle.el_layout.specs.Layout.{indent}
use Rattle.el_layout.proofs.printer.print_indent.Given as goal

abbrev pub invariant-loop : goal.invariant-loop
invariant-loop l = l.out ≡ l.initial.out ++ indent l.counter

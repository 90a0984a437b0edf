use Rattle.el_script.proofs.Vocabulary.{iter_rest, args_of}
use Rattle.std.proofs.Common.{◌≡◌, ◌++◌, drop}
use Rattle.el_layout.specs.Layout.{items_layout, indent}
use Rattle.el_layout.proofs.printer.print_command.Given as goal

-- what is printed, and what is to be printed
abbrev pub invariant-loop-item : goal.invariant-loop-item
invariant-loop-item l = l.out ++ items_layout (args_of (iter_rest l.item-iterator)) ≡ (l.fn.out ++ indent l.depth) ++ drop 1 (items_layout l.args)

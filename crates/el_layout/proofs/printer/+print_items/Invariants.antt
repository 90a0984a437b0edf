use Rattle.el_script.proofs.Vocabulary.{iter_rest, most, deep-Arg, args_of, args_size}
use Rattle.std.proofs.Common.{◌≡◌, ◌++◌, ◌≤◌}
use Rattle.el_layout.specs.Layout.{items_layout}
use Rattle.el_layout.proofs.printer.+print_items.Given as goal

-- what is printed, and what is to be printed
abbrev pub invariant-print_items-loop-item : goal.invariant-print_items-loop-item
invariant-print_items-loop-item l = record {
  printed : l.out ++ items_layout (args_of (iter_rest l.item-iterator)) ≡ l.initial.out ++ items_layout l.group;
  smaller : most deep-Arg (iter_rest l.item-iterator) ≤ args_size l.group;
}

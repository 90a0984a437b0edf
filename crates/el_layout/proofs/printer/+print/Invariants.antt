use Rattle.el_script.proofs.Vocabulary.{iter_rest, most, deep-Node, deep-Place, places_of, tree_of, nodes_size, places_size}
use Rattle.std.proofs.Common.{◌≡◌, ◌++◌, ◌≤◌}
use Rattle.el_layout.specs.Layout.{places_layout, tree_layout}
use Rattle.el_layout.proofs.printer.+print.Given as goal

-- each: what is printed, and what is to be printed

abbrev pub invariant-print_lines-loop-node : goal.invariant-print_lines-loop-node
invariant-print_lines-loop-node l = record {
  printed : l.out ++ tree_layout l.depth (tree_of (iter_rest l.node-iterator) l.last) ≡ l.initial.out ++ tree_layout l.depth (tree_of l.nodes l.last);
  smaller : most deep-Node (iter_rest l.node-iterator) ≤ nodes_size l.nodes;
}

abbrev pub invariant-print_places-loop-place : goal.invariant-print_places-loop-place
invariant-print_places-loop-place l = record {
  printed : l.out ++ places_layout l.depth (places_of (iter_rest l.place-iterator)) ≡ l.initial.out ++ places_layout l.depth l.places;
  smaller : most deep-Place (iter_rest l.place-iterator) ≤ places_size l.places;
}

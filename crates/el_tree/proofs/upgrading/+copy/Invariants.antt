use Rattle.std.proofs.Common.{◌≡◌, ◌++◌, ◌≤◌, map}
use Rattle.std.specs.Slice.Iter.{iter_rest}
use denote.Param.Weighed.{most}
use Rattle.el_tree.specs.declared.tree.Nodes.TheDeep.{deep-Node, deep-Place}
use Rattle.el_tree.specs.Lists.{places_of, ◌with_places◌}
use Rattle.el_tree.specs.Sizes.{nodes_size, places_size}
use Rattle.el_tree.specs.Copies.{copied_places, own_places, copied_node}
use Rattle.el_tree.proofs.upgrading.+copy.Given as goal

-- each: what is copied, and what is to be copied

abbrev pub invariant-copied_nodes-loop-node : goal.invariant-copied_nodes-loop-node
invariant-copied_nodes-loop-node l = record {
  copied : l.made ++ map (copied_node l.upgrades) (iter_rest l.node-iterator) ≡ map (copied_node l.upgrades) l.nodes;
  smaller : most deep-Node (iter_rest l.node-iterator) ≤ nodes_size l.nodes;
}

abbrev pub invariant-copied_places-loop-place : goal.invariant-copied_places-loop-place
invariant-copied_places-loop-place l = record {
  copied : l.made with_places copied_places l.upgrades (places_of (iter_rest l.place-iterator)) ≡ own_places l.upgrades l.fn.program l.places;
  smaller : most deep-Place (iter_rest l.place-iterator) ≤ places_size l.places;
}

use Rattle.el_script.proofs.Vocabulary.{iter_rest, most, deep-Node, deep-Place, written, written_places, written_directives, tree_of, places_of, directives_of, nodes_size, places_size}
use Rattle.std.proofs.Common.{◌≤◌}
use Rattle.el_lint.specs.Findings.{tokens_in}
use Rattle.el_lint.specs.Walks.{found_in_tree, found_in_places, found_in_directives}
use Rattle.el_lint.proofs.Walking.{StillPasses, StillPassesChain}
use Rattle.el_lint.proofs.walk.Script.+walk.Given as goal

-- each: what was found, and what is left to be found

abbrev pub invariant-chain-loop-node : goal.invariant-chain-loop-node
invariant-chain-loop-node l = record {
  passes : StillPassesChain l.initial.walk l.walk (found_in_tree l.self l.initial.walk l.initial.context (tree_of l.nodes l.last)) (found_in_tree l.self l.walk l.context (tree_of (iter_rest l.node-iterator) l.last)) (tokens_in (written (tree_of l.nodes l.last))) (tokens_in (written (tree_of (iter_rest l.node-iterator) l.last)));
  smaller : most deep-Node (iter_rest l.node-iterator) ≤ nodes_size l.nodes;
}

abbrev pub invariant-places-loop-place : goal.invariant-places-loop-place
invariant-places-loop-place l = record {
  passes : StillPasses l.initial.walk l.walk (found_in_places l.self l.initial.walk l.initial.context l.places) (found_in_places l.self l.walk l.context (places_of (iter_rest l.place-iterator))) (tokens_in (written_places l.places)) (tokens_in (written_places (places_of (iter_rest l.place-iterator))));
  smaller : most deep-Place (iter_rest l.place-iterator) ≤ places_size l.places;
}

abbrev pub invariant-directives-loop-directive : goal.invariant-directives-loop-directive
invariant-directives-loop-directive l = record {
  passes : StillPasses l.initial.walk l.walk (found_in_directives l.self l.initial.walk l.context (directives_of l.directives)) (found_in_directives l.self l.walk l.context (directives_of (iter_rest l.directive-iterator))) (tokens_in (written_directives (directives_of l.directives))) (tokens_in (written_directives (directives_of (iter_rest l.directive-iterator))));
  smaller : most deep-Node (iter_rest l.directive-iterator) ≤ nodes_size l.directives;
}

use Rattle.el_script.proofs.Vocabulary.{on_ok_weaker, iter_rest, most, deep-Node, deep-Place, Place, written, written_places, written_directives, tree_of, places_of, directives_of, nodes_size, places_size}
use Rattle.std.proofs.Common.{List, refl, ◌∙◌, subst, arith, ◌≤◌}
use Rattle.el_tree.specs.declared.tree.Node.{Node}
use Rattle.el_lint.specs.Findings.{tokens_in}
use Rattle.el_lint.specs.Walks.{found_in_tree, found_in_places, found_in_directives}
use Rattle.el_lint.proofs.Walking.{StillPasses, StillPassesChain, node-on, chain-ends, tree-passed, names-passed, place-on, directive-on}
use Rattle.el_lint.proofs.walk.Script.+walk.Goals as goal

pub tree-returns : goal.tree-returns
tree-returns t c =
    tree-passed c.args.self.now c.args.walk.now c.chain.new.walk _ c.args.context (tree_of c.tree.inside.nodes c.tree.inside.last) c.args.tree.now c.mark-mark.result.count c.tree.view_is c.mark-mark.ensures.count
    c.in_ok-chain.ensures refl refl c.back_to.ensures.names (c.back_to.ensures.positional ∙ c.mark-mark.ensures.positional)

pub chain-loop-node-preserved : goal.chain-loop-node-preserved
chain-loop-node-preserved t c =
    let script = c.args.self.now in
    let last = c.args.last.now in
    let found = found_in_tree script c.args.walk.now c.args.context (tree_of c.args.nodes.now last) in
    let tokens = tokens_in (written (tree_of c.args.nodes.now last)) in
    let still = subst
    (λ (left : List Node). StillPassesChain c.args.walk.now c.loop-node.walk found (found_in_tree script c.loop-node.walk c.loop-node.context (tree_of left last)) tokens (tokens_in (written (tree_of left last)))) c.in-Some.ensures.steps
    c.loop-node.invariant.passes in
    let smaller = subst (λ (left : List Node). most deep-Node left ≤ nodes_size c.args.nodes.now) c.in-Some.ensures.steps c.loop-node.invariant.smaller in
    record {
      passes =
          node-on script c.args.walk.now c.loop-node.walk found tokens c.program.new.walk c.places.new.walk _ c.loop-node.context c.in_ok-inside.inside _ c.in-Some.node.now (iter_rest c.next.new.self) last c.in_ok-inside.ensures c.in_ok-context.ensures still c.in_ok-program.ensures c.in_ok-places.ensures refl refl
          c.in_ok-learn.ensures;
      smaller = omega (arith, smaller);
    }

pub chain-returns : goal.chain-returns
chain-returns t c =
    on_ok_weaker c.last.result
    (chain-ends c.args.self.now c.args.walk.now c.loop-node.walk _ _ c.last.new.walk c.loop-node.context (iter_rest c.loop-node.node-iterator) c.args.last.now c.in-None.ensures.steps.0 c.loop-node.invariant.passes) c.last.ensures

pub places-loop-place-preserved : goal.places-loop-place-preserved
places-loop-place-preserved t c =
    let script = c.args.self.now in
    let found = found_in_places script c.args.walk.now c.args.context c.args.places.now in
    let tokens = tokens_in (written_places c.args.places.now) in
    let still = subst
    (λ (left : List Place). StillPasses c.args.walk.now c.loop-place.walk found (found_in_places script c.loop-place.walk c.loop-place.context (places_of left)) tokens (tokens_in (written_places (places_of left)))) c.in-Some.ensures.steps
    c.loop-place.invariant.passes in
    let smaller = subst (λ (left : List Place). most deep-Place left ≤ places_size c.args.places.now) c.in-Some.ensures.steps c.loop-place.invariant.smaller in
    record {
      passes = place-on script c.args.walk.now c.loop-place.walk c.place.new.walk found tokens c.loop-place.context _ c.in-Some.place.now (iter_rest c.next.new.self) c.later-context.ensures still c.in_ok-place.ensures;
      smaller = omega (arith, smaller);
    }

pub directives-loop-directive-preserved : goal.directives-loop-directive-preserved
directives-loop-directive-preserved t c =
    let script = c.args.self.now in
    let found = found_in_directives script c.args.walk.now c.args.context (directives_of c.args.directives.now) in
    let tokens = tokens_in (written_directives (directives_of c.args.directives.now)) in
    let still = subst
    (λ (left : List Node). StillPasses c.args.walk.now c.loop-directive.walk found (found_in_directives script c.loop-directive.walk c.args.context (directives_of left)) tokens (tokens_in (written_directives (directives_of left))))
    c.in-Some.ensures.steps c.loop-directive.invariant.passes in
    let smaller = subst (λ (left : List Node). most deep-Node left ≤ nodes_size c.args.directives.now) c.in-Some.ensures.steps c.loop-directive.invariant.smaller in
    record {
      passes =
          directive-on script c.args.walk.now c.loop-directive.walk c.places.new.walk found tokens c.program.new.walk c.args.context c.in_ok-inside.inside c.in-Some.directive.now (iter_rest c.next.new.self) c.in_ok-inside.ensures still c.in_ok-program.ensures c.in_ok-places.ensures;
      smaller = omega (arith, smaller);
    }

pub place-returns-in-Names : goal.place-returns-in-Names
place-returns-in-Names t c =
    on_ok_weaker c.pass_block-in-Names.result
    (names-passed c.args.self.now c.args.walk.now c.pass_block-in-Names.new.self c.args.context c.args.place.now c.in-Names.names c.len.result c.in-Names.is c.len.ensures.count) c.pass_block-in-Names.ensures

use Rattle.el_script.proofs.Vocabulary.{iter_rest, letters_of, directives_of, own_member, directives_member}
use Rattle.el_lint.specs.Known.{known_with}
use Rattle.el_lint.specs.KnownTold.{known_told}
use Rattle.el_lint.proofs.Knowing.{directive-known}
use Rattle.std.proofs.Common.{◌≡◌, List, subst}
use Rattle.el_tree.specs.declared.tree.Node.{Node}
use Rattle.el_lint.proofs.known.KnownNames.learn_directives.Goals as goal

pub loop-directive-preserved : goal.loop-directive-preserved
loop-directive-preserved c =
    let directive = c.in-Some.directive.now in
    let still = subst
    (λ (left : List Node). known_with (known_told c.loop-directive.self) (directives_member (directives_of left)) ≡ known_with (known_told c.args.self.now) (directives_member (directives_of c.args.directives.now)))
    c.in-Some.ensures.steps c.loop-directive.invariant in
    directive-known (known_told c.loop-directive.self) (known_told c.learn_own.new.self) _ (own_member directive.prog (letters_of directive.prog directive.options) directive.places) (directives_member (directives_of (iter_rest c.next.new.self))) still c.in_ok-learn_own.ensures

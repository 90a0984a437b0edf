use Rattle.el_script.proofs.Vocabulary.{iter_rest, directives_of, directives_member}
use Rattle.std.proofs.Common.{◌≡◌}
use Rattle.el_lint.specs.Known.{known_with}
use Rattle.el_lint.specs.KnownTold.{known_told}
use Rattle.el_lint.proofs.known.KnownNames.learn_directives.Given as goal

-- what is known so far, and what the directives put in that are left
abbrev pub invariant-loop-directive : goal.invariant-loop-directive
invariant-loop-directive l =
    known_with (known_told l.self) (directives_member (directives_of (iter_rest l.directive-iterator))) ≡ known_with (known_told l.initial.self) (directives_member (directives_of l.directives))

use Rattle.std.proofs.Common.{◌≡◌, length}
use Rattle.el_subst.specs.References.{references_of}
use Rattle.el_lint.specs.KnownTold.{known_told}
use Rattle.el_lint.specs.Values.{takes_value}
use Rattle.el_lint.proofs.valued.takes_value.Given as goal

-- none so far takes a value
abbrev pub invariant-loop-found : goal.invariant-loop-found
invariant-loop-found l = takes_value (known_told l.known) (references_of l.word) ≡ takes_value (known_told l.known) (references_of l.rest)

abbrev pub decreases-loop-found : goal.decreases-loop-found
decreases-loop-found l = length l.rest

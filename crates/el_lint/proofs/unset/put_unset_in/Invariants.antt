use Rattle.std.proofs.Common.{◌≡◌, ◌++◌, length}
use Rattle.el_subst.specs.References.{references_of}
use Rattle.el_lint.specs.KnownTold.{known_told}
use Rattle.el_lint.specs.Lints.{unset_in}
use Rattle.el_lint.proofs.unset.put_unset_in.Given as goal

-- what was found, and what is left to be found
abbrev pub invariant-loop-found : goal.invariant-loop-found
invariant-loop-found l =
    l.lints.items ++ unset_in (known_told l.known) l.around (references_of l.rest) ≡ l.initial.lints.items ++ unset_in (known_told l.known) l.around (references_of l.text)

abbrev pub decreases-loop-found : goal.decreases-loop-found
decreases-loop-found l = length l.rest

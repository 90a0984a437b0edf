use Rattle.std.proofs.Common.{◌≡◌, ◌++◌, false}
use Rattle.el_lint.specs.KnownTold.{known_told}
use Rattle.el_lint.specs.Lints.{unset_from}
use Rattle.el_lint.proofs.unset.put_unset.Given as goal

-- what was found, and what is left to be found
abbrev pub invariant-loop-text : goal.invariant-loop-text
invariant-loop-text l =
    l.lints.items ++ unset_from (known_told l.known) l.around l.is_code l.text-iterator ≡ l.initial.lints.items ++ unset_from (known_told l.known) l.around false l.texts

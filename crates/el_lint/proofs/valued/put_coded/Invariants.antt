use Rattle.std.proofs.Common.{◌≡◌, ◌++◌, false}
use Rattle.el_lint.specs.KnownTold.{known_told}
use Rattle.el_lint.specs.Values.{coded_from}
use Rattle.el_lint.proofs.valued.put_coded.Given as goal

-- what was found, and what is left to be found
abbrev pub invariant-loop-text : goal.invariant-loop-text
invariant-loop-text l =
    l.lints.items ++ coded_from (known_told l.known) l.is_behind_shell l.is_code l.text-iterator ≡ l.initial.lints.items ++ coded_from (known_told l.known) false false l.texts

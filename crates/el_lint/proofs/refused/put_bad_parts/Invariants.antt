use Rattle.el_room.proofs.Vocabulary.{filter, Multidefine}
use Rattle.std.proofs.Common.{◌≡◌, ◌++◌, map}
use Rattle.el_lint.specs.declared.lint.Lint.TheVariants.{Refused}
use Rattle.el_lint.specs.declared.wanted.Wanted.TheVariants.{Key}
use Rattle.el_lint.specs.Refused.{is_bad_part}
use Rattle.el_lint.proofs.refused.put_bad_parts.Given as goal

-- what was found, and what is left to be found
abbrev pub invariant-loop-name : goal.invariant-loop-name
invariant-loop-name l = l.lints.items ++ map (Refused Multidefine Key) (filter is_bad_part l.name-iterator) ≡ l.initial.lints.items ++ map (Refused Multidefine Key) (filter is_bad_part l.names)

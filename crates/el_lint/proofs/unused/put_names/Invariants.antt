use Rattle.std.proofs.Common.{◌≡◌, ◌++◌, map}
use Rattle.std.specs.List.{filter}
use Rattle.el_lint.specs.declared.lint.Lint.TheVariants.{Unused}
use Rattle.el_lint.specs.Lints.{is_unused}
use Rattle.el_lint.proofs.unused.put_names.Given as goal

-- what was found, and what is left to be found
abbrev pub invariant-loop-name : goal.invariant-loop-name
invariant-loop-name l = l.lints.items ++ map Unused (filter (is_unused l.used) l.name-iterator) ≡ l.initial.lints.items ++ map Unused (filter (is_unused l.used) l.names)

use Rattle.std.proofs.Common.{◌≡◌, ◌++◌}
use Rattle.el_family.specs.Trees.{indent}
use Rattle.el_family.proofs.tree.put_indent.Given as goal

-- so many levels are put
abbrev pub invariant-loop : goal.invariant-loop
invariant-loop l = l.lines ≡ l.initial.lines ++ indent l.counter

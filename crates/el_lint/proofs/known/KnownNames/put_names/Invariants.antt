use Rattle.std.proofs.Common.{◌≡◌, ◌++◌}
use Rattle.el_lint.proofs.known.KnownNames.put_names.Given as goal

-- the names so far, and those that are left
abbrev pub invariant-loop-name : goal.invariant-loop-name
invariant-loop-name l = record {
  names : l.self.names.items ++ l.name-iterator ≡ l.initial.self.names.items ++ l.names;
  positional : l.self.positional ≡ l.initial.self.positional;
}

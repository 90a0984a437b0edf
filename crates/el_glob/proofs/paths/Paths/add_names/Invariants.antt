use Rattle.std.proofs.Common.{◌≡◌}
use Rattle.el_glob.specs.Listings.{with_names}
use Rattle.el_glob.proofs.paths.Paths.add_names.Given as goal

-- what is added, and what is to be added
abbrev pub invariant-loop-name : goal.invariant-loop-name
invariant-loop-name l = with_names l.component l.path l.name-iterator l.self ≡ with_names l.component l.path l.names l.initial.self

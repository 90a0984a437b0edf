use Rattle.std.proofs.Common.{◌≡◌}
use Rattle.el_glob.specs.Listings.{with_joined}
use Rattle.el_glob.proofs.paths.Paths.add_joined.Given as goal

-- what is added, and what is to be added
abbrev pub invariant-loop-path : goal.invariant-loop-path
invariant-loop-path l = with_joined l.name l.path-iterator l.self ≡ with_joined l.name l.paths l.initial.self

use Rattle.std.proofs.Common.{◌≡◌, ◌++◌, map}
use Rattle.el_glob.specs.PathsKept.{HaveNoNul}
use Rattle.el_glob.proofs.paths.Paths.to_words.Given as goal

-- what was put, and what is to be put
abbrev pub invariant-loop-path : goal.invariant-loop-path
invariant-loop-path l = (l.words ++ map (λ path. path.now) l.path-iterator ≡ l.self) × HaveNoNul (map (λ path. path.now) l.path-iterator)

-- What an environment is seen as.
use Rattle.std.specs.Prelude.{ℕ, List}
use Rattle.std.specs.Ordering.{nat_cmp}
use Rattle.std.specs.Cmp.Lexicographic.{slice_cmp}
use Rattle.std.specs.Coded.{Coded, coded_ℕ, coded_list}
use Rattle.std.specs.FinMap as map

-- a finite map from names to words; its keys rise by their bytes
abbrev pub Vars : Type 0
Vars = map.FinMap (slice_cmp nat_cmp) (List ℕ)

-- how proofs store it
abbrev pub vars_code : Coded Vars
vars_code = map.code (coded_list coded_ℕ) (coded_list coded_ℕ)

-- Paths as they came, put in order.
use Rattle.std.proofs.Common.{◌≡◌, refl, ℕ, suc, ◌<◌, List, [], ◌∷◌, ◌++◌, length, slice_index_or, arith}
use Rattle.std.specs.Prelude.{◌==◌, true}
use Rattle.std.specs.Ordering.{nat_cmp, match_ordering}
use Rattle.std.specs.declared.cmp.Ordering.{Ordering}
use Rattle.std.specs.declared.cmp.Ordering.TheVariants.{Less, Equal, Greater}
use Rattle.std.specs.Cmp.Lexicographic.{slice_cmp}
use Rattle.std.proofs.lemmas.Bool.Decides.{Decides-eqb}
use Rattle.el_words.specs.Word.{HasNul}
use Rattle.el_glob.specs.Listings.{placed, join}
use Rattle.el_glob.specs.PathsKept.{all_placed, HaveNoNul}

-- one more path behind
pub all_placed-more : (paths : List (List ℕ)) (path : List ℕ) (found : List (List ℕ)) → all_placed (paths ++ path ∷ []) found ≡ placed (all_placed paths found) path
all_placed-more [] path found = refl
all_placed-more (first ∷ paths) path found = all_placed-more paths path (placed found first)

-- a name where all begins
pub join-nothing : (path name : List ℕ) → (length path == 0) ≡ true → join path name ≡ name
join-nothing [] name none = refl
join-nothing (byte ∷ path) name none = let fails : suc (length path) ≡ 0 = (Decides-eqb (suc (length path)) 0).0 none in absurd (omega (arith, fails))

no_nul-placed : (paths : List (List ℕ)) (path : List ℕ) → HaveNoNul paths → (HasNul path → ⊥) → HaveNoNul (placed paths path)
no_nul-placed [] path h none = (none, tt)
no_nul-placed (first ∷ paths) path h none = by (slice_cmp nat_cmp path first) (no_nul-placed paths path h.1 none) where
  by : (o : Ordering) → HaveNoNul (placed paths path) → HaveNoNul (match_ordering o (path ∷ first ∷ paths) (first ∷ paths) (first ∷ placed paths path))
  by Less later = (none, h)
  by Equal later = h
  by Greater later = (h.0, later)

-- paths without NUL, put in order
pub no_nul-all : (paths found : List (List ℕ)) → ((k : ℕ) (d : List ℕ) → k < length paths → HasNul (slice_index_or paths k d) → ⊥) → HaveNoNul found → HaveNoNul (all_placed paths found)
no_nul-all [] found none h = h
no_nul-all (path ∷ paths) found none h = no_nul-all paths (placed found path) (λ k d lt. none (suc k) d (omega (arith, lt))) (no_nul-placed found path h (none 0 [] (omega arith)))

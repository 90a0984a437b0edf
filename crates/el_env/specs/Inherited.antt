-- Inherited variables. Only the code's contracts need it.
use Rattle.std.specs.Prelude.{◌≡◌, ℕ, true, List, [], ◌∷◌, Option, Some, slice_get, T}
use Rattle.std.specs.Ordering.{nat_cmp}
use Rattle.std.specs.Cmp.Lexicographic.{slice_cmp}
use Rattle.std.specs.FinMap as map
use Rattle.std.specs.FinMap.Entries.{put}
use Rattle.el_words.specs.Word.{HasNul}
use Rattle.el_env.specs.Name.{is_good_name}
use Rattle.el_env.specs.Vars.{Vars}

-- the value that a name has in a list of variables: of two with one name the first counts
abbrev pub value_in : List ℕ → List (List ℕ × List ℕ) → Option (List ℕ)
value_in name pairs = map.find (slice_cmp nat_cmp) name pairs

-- the variable at a place is the first with the name
pub record StandsAt (pairs : List (List ℕ × List ℕ)) (place : ℕ) (name : List ℕ) : Type 0 where
  pub value : List ℕ
  pub there : slice_get pairs place ≡ Some (name, value)
  pub counts : value_in name pairs ≡ Some value

-- the variables of a list: of two with one name the first counts
abbrev pub listed : List (List ℕ × List ℕ) → Vars
listed pairs = map.from_entries pairs

-- the names strictly rise
abbrev pub AreRising : List (List ℕ × List ℕ) → Type 0
AreRising pairs = T (map.is_sorted (slice_cmp nat_cmp) pairs)

-- a variable among others whose names rise, in place of the one with its name
abbrev pub placed : List ℕ × List ℕ → List (List ℕ × List ℕ) → List (List ℕ × List ℕ)
placed pair pairs = put (slice_cmp nat_cmp) pair.0 pair.1 pairs

-- each variable has a name that a variable can have
abbrev pub HaveGoodNames : List (List ℕ × List ℕ) → Type 0
HaveGoodNames [] = Unit {0}
HaveGoodNames (pair ∷ pairs) = (is_good_name pair.0 ≡ true) × HaveGoodNames pairs

-- no name holds a NUL
abbrev pub HaveNoNul : List (List ℕ × List ℕ) → Type 0
HaveNoNul [] = Unit {0}
HaveNoNul (pair ∷ pairs) = (HasNul pair.0 → ⊥) × HaveNoNul pairs

-- The names that variables can have.
use Rattle.std.specs.Prelude.{◌≡◌, ◌==◌, ℕ, Bool, true, false, ◌&&◌, not, List, [], ◌∷◌}
use Rattle.std.specs.List.{list_any}
use Rattle.std.specs.FinMap as map
use Rattle.el_words.specs.Word.{HasNul}
use Rattle.el_env.specs.Vars.{Vars}

abbrev is_empty : List ℕ → Bool
is_empty [] = true
is_empty (byte ∷ bytes) = false

-- whether a variable can have the name: it isn't empty, and holds no equals sign (61)
abbrev pub is_good_name : List ℕ → Bool
is_good_name name = not (is_empty name) && not (list_any (λ byte. byte == 61) name)

-- a name that no variable has
abbrev pub IsBadName : List ℕ → Type 0
IsBadName name = is_good_name name ≡ false

-- a name that a variable can have, without a NUL byte
pub record IsName (name : List ℕ) : Type 0 where
  pub no_nul : HasNul name → ⊥
  pub good : is_good_name name ≡ true

-- each name that is set is a good one and holds no NUL byte
abbrev pub NamesAreGood : Vars → Type 0
NamesAreGood vars = (name : List ℕ) → map.contains_key vars name ≡ true → IsName name

-- Values that are netstrings.
use Rattle.std.specs.Prelude.{◌≡◌, ℕ, ◌<◌, List, [], ◌∷◌, ◌++◌, map, length, take, drop}
use Rattle.std.specs.List.{concat}
use Rattle.std.specs.Fmt.{decimal}

-- a word as a netstring: its length in decimal, a colon (58), its bytes and a comma (44)
abbrev pub netstring_text : List ℕ → List ℕ
netstring_text word = decimal (length word) ++ (58 ∷ (word ++ 44 ∷ []))

-- the words as netstrings, one directly behind the other
abbrev pub netstrings_text : List (List ℕ) → List ℕ
netstrings_text words = concat (map netstring_text words)

-- netstrings fill the value up to this place, and none begins there before the end
pub record FailsAt (value : List ℕ) (at : ℕ) : Type 0 where
  pub words : List (List ℕ)
  pub filled : netstrings_text words ≡ take at value
  pub before_end : at < length value
  pub none_begins : (word rest : List ℕ) → netstring_text word ++ rest ≡ drop at value → ⊥

-- The splitting of a value at delimiters.
use Rattle.std.specs.Prelude.{◌≡◌, ℕ, Bool, true, false, ◌&&◌, not, List, [], ◌∷◌, ◌++◌, map}
use Rattle.std.specs.List.{list_all, list_any, concat}
use Rattle.el_transform.specs.Crunching.{Delimiters, is_delimiter}

-- some byte is a delimiter
abbrev pub has_delimiter : Delimiters → List ℕ → Bool
has_delimiter delims bytes = list_any (is_delimiter delims) bytes

-- a word without delimiters, and the delimiter that ends it
abbrev pub is_ended : Delimiters → List ℕ × ℕ → Bool
is_ended delims (word, delimiter) = not (has_delimiter delims word) && is_delimiter delims delimiter

-- a word with the delimiter behind it
abbrev pub ended_text : List ℕ × ℕ → List ℕ
ended_text (word, delimiter) = word ++ delimiter ∷ []

-- the bytes after the last delimiter are one more word, where there is at least one
abbrev pub last_word : List ℕ → List (List ℕ)
last_word [] = []
last_word (byte ∷ bytes) = (byte ∷ bytes) ∷ []

-- the value is these words without delimiters, each followed by a delimiter, the last one perhaps not
pub record Splits (delims : Delimiters) (value : List ℕ) (words : List (List ℕ)) : Type 0 where
  pub ended : List (List ℕ × ℕ)
  pub rest : List ℕ
  pub are_ended : list_all (is_ended delims) ended ≡ true
  pub rest_has_none : has_delimiter delims rest ≡ false
  pub joined : concat (map ended_text ended) ++ rest ≡ value
  pub are_words : map (λ e. e.0) ended ++ last_word rest ≡ words

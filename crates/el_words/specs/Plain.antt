-- Words that were looked through for a `$`. This file is the code's own.
use Rattle.std.specs.Prelude.{ℕ, ◌<◌, ◌≤◌, List, length}
use Rattle.el_words.specs.Word.{HoldsByteAt}

-- so many of the words, the first ones, hold no `$` (36)
pub record ArePlain (words : List (List ℕ)) (count : ℕ) : Type 0 where
  pub within : count ≤ length words
  pub none : (place : ℕ) → place < count → HoldsByteAt words 36 place → ⊥

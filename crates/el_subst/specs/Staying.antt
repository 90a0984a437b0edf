-- Words that a substitution leaves as they are. The code copies them in bulk. Only the code's contracts need it.
use Rattle.std.specs.Prelude.{◌≡◌, ℕ, ◌+◌, ◌<◌, ◌≤◌, List, [], ◌∷◌, length, slice_index_or}
use Rattle.el_subst.specs.Values.{Pairs, word_value}

-- the value of the word at a place is this word alone
abbrev pub StaysAt : Pairs → List (List ℕ) → ℕ → Type 0
StaysAt pairs words place = word_value pairs (slice_index_or words place []) ≡ slice_index_or words place [] ∷ []

-- that holds at each place from one place of a list to before another
pub record StayBetween (pairs : Pairs) (words : List (List ℕ)) (from to : ℕ) : Type 0 where
  pub order : from ≤ to
  pub within : to ≤ length words
  pub each : (place : ℕ) → from ≤ place → place < to → StaysAt pairs words place

-- these places of a list, from one on to before another, and no others may hold words that don't stay
abbrev pub AreChanged : Pairs → List (List ℕ) → (from : ℕ) → (places : List ℕ) → (to : ℕ) → Type 0
AreChanged pairs words from [] to = StayBetween pairs words from to
AreChanged pairs words from (place ∷ places) to = (place < length words) × StayBetween pairs words from place × AreChanged pairs words (place + 1) places to

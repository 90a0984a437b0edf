-- How a list of words lies in its buffer. Contracts see the list alone, but for `word_ends`, by which joined words are told apart.
use Rattle.std.specs.Prelude.{◌≡◌, ℕ, ◌+◌, ◌<◌, ◌≤◌, List, [], ◌∷◌, length, slice_index, slice_range, Option, None, Some, Box}
use Rattle.std.specs.declared.alloc.Global.{Global}
use Rattle.el_words.specs.Word.{HasNul}

-- the slices of some bytes: from a start to the first end, from there to the next, and so on
abbrev pub slices : List ℕ → ℕ → List ℕ → List (List ℕ)
slices bytes start [] = []
slices bytes start (end ∷ ends) = slice_range bytes start end ∷ slices bytes end ends

-- the ends rise from a start, and the last is at a length
abbrev pub RiseTo : ℕ → List ℕ → ℕ → Type 0
RiseTo start [] len = start ≡ len
RiseTo start (end ∷ ends) len = (start ≤ end) × RiseTo end ends len

-- where the slice at a place starts: the first at a start, and each other where the one before it ends
abbrev pub start_at : ℕ → List ℕ → ℕ → ℕ
start_at start ends place = slice_index (start ∷ ends) place

-- where words end that lie one after another from a place on
abbrev pub word_ends : ℕ → List (List ℕ) → List ℕ
word_ends start [] = []
word_ends start (word ∷ words) = (start + length word) ∷ word_ends (start + length word) words

-- so many ends are at most a place, and the others are above it
pub record IsCut (place : ℕ) (ends : List ℕ) (count : ℕ) : Type 0 where
  pub within : count ≤ length ends
  pub below : (k : ℕ) → k < count → slice_index ends k ≤ place
  pub above : (k : ℕ) → count ≤ k → k < length ends → place < slice_index ends k

-- the slices up to these ends are the whole buffer, which holds no NUL, and so many of them are gone
pub record IsSound (bytes ends : List ℕ) (gone : ℕ) : Type 0 where
  pub whole : RiseTo 0 ends (length bytes)
  pub no_nul : HasNul bytes → ⊥
  pub among : gone ≤ length ends

-- the words of a list that has a buffer only where one was put in
abbrev pub buffered : Option (Box (List (List ℕ)) Global) → List (List ℕ)
buffered None = []
buffered (Some buffer) = buffer.value

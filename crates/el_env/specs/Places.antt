-- How inherited variables lie in their buffer. This file is the code's own: a contract sees their names and values alone.
use Rattle.std.specs.Prelude.{ℕ, ◌≤◌, List, [], ◌∷◌, length, slice_range}
use Rattle.el_words.specs.Word.{HasNul}
use Rattle.el_env.specs.declared.env.place.Place.{Place}
use Rattle.el_env.specs.Inherited.{AreRising}
use Rattle.el_env.specs.Marks.{AreMarked}

-- the variable at a place of a buffer
abbrev pub pair_at : List ℕ → Place → List ℕ × List ℕ
pair_at bytes place = (slice_range bytes place.start place.middle, slice_range bytes place.middle place.end)

-- the variables at these places, in their order
abbrev pub pairs_at : List ℕ → List Place → List (List ℕ × List ℕ)
pairs_at bytes [] = []
pairs_at bytes (place ∷ places) = pair_at bytes place ∷ pairs_at bytes places

-- the place lies in a buffer of this length
pub record IsWithin (len : ℕ) (place : Place) : Type 0 where
  pub name : place.start ≤ place.middle
  pub value : place.middle ≤ place.end
  pub whole : place.end ≤ len

-- each of these places lies in a buffer of this length
abbrev pub AreWithin : ℕ → List Place → Type 0
AreWithin len [] = Unit {0}
AreWithin len (place ∷ places) = IsWithin len place × AreWithin len places

-- every place lies in the buffer, which holds no NUL
pub record IsSound (bytes : List ℕ) (places : List Place) : Type 0 where
  pub within : AreWithin (length bytes) places
  pub no_nul : HasNul bytes → ⊥

-- the variables that lie in a buffer, whose names rise, and the marks of their names
pub record IsFindable (bytes : List ℕ) (places : List Place) (flags : List ℕ) : Type 0 where
  pub sound : IsSound bytes places
  pub marked : AreMarked flags (pairs_at bytes places)
  pub rising : AreRising (pairs_at bytes places)

-- Paths as they are kept until they are put in order. This file is the code's own.
use Rattle.std.specs.Prelude.{ℕ, List, [], ◌∷◌}
use Rattle.el_words.specs.Word.{HasNul}
use Rattle.el_glob.specs.Listings.{placed}

-- the paths found so far, and each of these at its place
abbrev pub all_placed : (paths found : List (List ℕ)) → List (List ℕ)
all_placed [] found = found
all_placed (path ∷ paths) found = all_placed paths (placed found path)

-- none of these holds a NUL
abbrev pub HaveNoNul : List (List ℕ) → Type 0
HaveNoNul [] = Unit {0}
HaveNoNul (path ∷ paths) = (HasNul path → ⊥) × HaveNoNul paths

-- Which names pieces stand for.
use Rattle.std.specs.Prelude.{◌≡◌, Bool, true, false, ◌&&◌, ◌||◌, ℕ, List, [], ◌∷◌, ◌++◌, IsTrue}
use Rattle.el_glob.specs.declared.piece.Piece.{Piece}
use Rattle.el_glob.specs.declared.piece.Piece.TheVariants.{Star}
use Rattle.el_glob.specs.Pieces.{stands_for}

-- a piece stands for a part: `*` for any bytes, any other piece for one byte
abbrev pub StandsFor : Piece → (part : List ℕ) → Type 0
StandsFor Star part = Unit {0}
StandsFor piece [] = ⊥
StandsFor piece (byte ∷ []) = IsTrue (stands_for piece byte)
StandsFor piece (byte ∷ other ∷ bytes) = ⊥

-- the name is parts one after the other, for each of which a piece stands, in order
abbrev pub Match : List Piece → (name : List ℕ) → Type 0
Match [] name = name ≡ []
Match (piece ∷ pieces) name = (part rest : List ℕ) × (name ≡ part ++ rest) × StandsFor piece part × Match pieces rest

-- the bytes, or what is left of them behind the first ones, pass a test
abbrev pub some_rest : (List ℕ → Bool) → List ℕ → Bool
some_rest p [] = p []
some_rest p (byte ∷ bytes) = p (byte ∷ bytes) || some_rest p bytes

-- one byte, and the test of what is behind it
abbrev pub one_byte : (ℕ → Bool) → (List ℕ → Bool) → List ℕ → Bool
one_byte here p [] = false
one_byte here p (byte ∷ bytes) = here byte && p bytes

-- the same by computation
abbrev pub matches : List Piece → (name : List ℕ) → Bool
matches [] [] = true
matches [] (byte ∷ bytes) = false
matches (Star ∷ pieces) name = some_rest (matches pieces) name
matches (piece ∷ pieces) name = one_byte (stands_for piece) (matches pieces) name

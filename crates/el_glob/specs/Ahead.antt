-- What is next and what is last of pieces and of bytes. This file is the code's own.
use Rattle.std.specs.Prelude.{Bool, true, false, ◌||◌, ℕ, List, [], ◌∷◌}
use Rattle.el_glob.specs.declared.piece.Piece.{Piece}
use Rattle.el_glob.specs.Pieces.{stands_for, is_star}

-- the next piece is a `*`
abbrev pub begin_with_star : List Piece → Bool
begin_with_star [] = false
begin_with_star (piece ∷ pieces) = is_star piece

-- the next piece stands for the next byte
abbrev pub begin_alike : List Piece → List ℕ → Bool
begin_alike [] bytes = false
begin_alike (piece ∷ pieces) [] = false
begin_alike (piece ∷ pieces) (byte ∷ bytes) = stands_for piece byte

-- the last byte, where there is one, passes a test
abbrev pub ends_in : (ℕ → Bool) → List ℕ → Bool
ends_in p [] = true
ends_in p (byte ∷ []) = p byte
ends_in p (byte ∷ other ∷ bytes) = ends_in p (other ∷ bytes)

-- the last piece may stand for the last byte, where there are such
abbrev pub may_end : List Piece → List ℕ → Bool
may_end [] bytes = true
may_end (piece ∷ []) bytes = ends_in (λ byte. is_star piece || stands_for piece byte) bytes
may_end (piece ∷ next ∷ pieces) bytes = may_end (next ∷ pieces) bytes

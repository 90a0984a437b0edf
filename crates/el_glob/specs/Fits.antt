-- Which names fit a component.
use Rattle.std.specs.Prelude.{◌==◌, Bool, false, not, ◌&&◌, ◌||◌, ℕ, List, [], ◌∷◌, IsTrue}
use Rattle.el_glob.specs.declared.piece.Piece.{Piece}
use Rattle.el_glob.specs.declared.piece.Piece.TheVariants.{Byte}
use Rattle.el_glob.specs.Matching.{Match, matches}

-- a name that begins with `.` (46)
abbrev pub is_hidden : (name : List ℕ) → Bool
is_hidden [] = false
is_hidden (byte ∷ bytes) = byte == 46

-- pieces that begin with the byte `.`
abbrev pub begin_with_dot : List Piece → Bool
begin_with_dot [] = false
begin_with_dot (Byte byte ∷ pieces) = byte == 46
begin_with_dot (piece ∷ pieces) = false

-- The pieces stand for the name; and a name that begins with `.` fits only where they begin with that byte.
pub record Fits (pieces : List Piece) (name : List ℕ) : Type 0 where
  pub matched : Match pieces name
  pub dot : IsTrue (is_hidden name) → IsTrue (begin_with_dot pieces)

-- the same by computation
abbrev pub fits : List Piece → (name : List ℕ) → Bool
fits pieces name = (not (is_hidden name) || begin_with_dot pieces) && matches pieces name

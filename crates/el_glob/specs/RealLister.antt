-- The lister over the operating system.
use Rattle.std.specs.Prelude.{◌==◌, ◌||◌, Bool, true, ℕ, List, [], ◌∷◌, length, Option, None, Some}
use Rattle.std.specs.Str.{bytes_eq}
use Rattle.el_glob.specs.declared.piece.Piece.{Piece}
use Rattle.el_glob.specs.Fits.{fits}
use Rattle.el_glob.specs.Listers.{ListerSeen}

-- a lister that tells no log
abbrev pub untold : (faults : ℕ) → ListerSeen
untold faults = record { log = None; faults = faults }

-- a name is wanted for a component, if for one
abbrev pub is_wanted : Option (List Piece) → (name : List ℕ) → Bool
is_wanted None name = true
is_wanted (Some pieces) name = fits pieces name

-- it is `.` (46) or `..`, or empty
abbrev pub is_dots : (name : List ℕ) → Bool
is_dots name = (length name == 0) || bytes_eq name (46 ∷ []) || bytes_eq name (46 ∷ 46 ∷ [])

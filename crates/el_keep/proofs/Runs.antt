-- Runs of bytes in front of a text.
use Rattle.std.proofs.Common.{◌≡◌, ℕ, Bool, true, false, List, [], ◌∷◌, refl, ap, length, take, if◌then◌else◌}
use Rattle.el_keep.specs.declared.place.Place.{Place}
use Rattle.el_keep.specs.Parts.{next_place, is_in, run_from}

-- a run is in front
pub run-front : (between : Bool) (place : Place) (bytes : List ℕ) → take (length (run_from between place bytes)) bytes ≡ run_from between place bytes
run-front between place [] = refl
run-front between place (byte ∷ bytes) = by (is_in between (next_place place byte)) (run-front between (next_place place byte) bytes)
  where
    by : (goes_on : Bool) → take (length (run_from between (next_place place byte) bytes)) bytes ≡ run_from between (next_place place byte) bytes
        → take (length (if goes_on then byte ∷ run_from between (next_place place byte) bytes else [])) (byte ∷ bytes)
        ≡ (if goes_on then byte ∷ run_from between (next_place place byte) bytes else [])
    by true later = ap (λ (front : List ℕ). byte ∷ front) later
    by false later = refl

pub ruleset runs = (run-front)

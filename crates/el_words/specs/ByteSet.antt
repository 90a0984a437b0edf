-- Sets of bytes. Only the code's contracts need it.
use Rattle.std.specs.Prelude.{ℕ, ◌+◌, Bool, true, false, List, [], ◌∷◌, map}
use Rattle.std.specs.List.{range_with_len}
use Rattle.std.specs.Ordering.{nat_cmp}
use Rattle.std.specs.FinSet as set

-- the places at which a list of flags is true, counted from n
abbrev pub places_of : ℕ → List Bool → List ℕ
places_of n [] = []
places_of n (true ∷ flags) = n ∷ places_of (n + 1) flags
places_of n (false ∷ flags) = places_of (n + 1) flags

-- one flag for each byte: whether the set has it
unfoldable pub flags_of : set.FinSet nat_cmp → List Bool
flags_of bytes = map (set.contains bytes) (range_with_len 0 256)

-- The index of the pairs by their keys. Only the code's contracts need it.
use Rattle.std.specs.Prelude.{◌≡◌, ℕ, suc, List, [], ◌∷◌, Vec, Option, Some, None, option_map, if◌then◌else◌}
use Rattle.std.specs.Map.{lookup}
use Rattle.std.specs.Str.{bytes_eq}
use Rattle.std.specs.declared.alloc.Global.{Global}
use Rattle.el_subst.specs.Values.{Pairs}

-- the place of the first pair with this key
abbrev pub place_of : Pairs → List ℕ → Option ℕ
place_of [] key = None
place_of (pair ∷ pairs) key = if bytes_eq pair.0 key then Some 0 else option_map (λ place. suc place) (place_of pairs key)

-- the stored places of the keys
abbrev pub KeyPlaces : Type 0
KeyPlaces = List (Vec ℕ Global × ℕ)

-- the place that is stored for a key
abbrev pub stored_place : KeyPlaces → List ℕ → Option ℕ
stored_place places key = lookup (λ stored. bytes_eq key stored.items) places

-- they are those of the first pairs with the keys
abbrev pub IsIndex : Pairs → KeyPlaces → Type 0
IsIndex pairs places = (key : List ℕ) → stored_place places key ≡ place_of pairs key

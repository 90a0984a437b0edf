-- The names in a directory.
use Rattle.std.specs.Prelude.{◌≡◌, ◌==◌, Bool, true, not, ◌&&◌, ◌⊎◌, ℕ, List, [], ◌∷◌, length}
use Rattle.std.specs.List.{list_any}
use Rattle.std.specs.Str.{bytes_eq}
use Rattle.el_glob.specs.declared.listed.Listed.{Listed}
use Rattle.el_glob.specs.declared.listed.Listed.TheVariants.{Names, NoDirectory}

-- it isn't empty, holds no `/` (47), and is neither `.` (46) nor `..`
abbrev pub is_entry_name : (name : List ℕ) → Bool
is_entry_name name = not (length name == 0) && not (list_any (λ byte. byte == 47) name) && not (bytes_eq name (46 ∷ [])) && not (bytes_eq name (46 ∷ 46 ∷ []))

-- these bytes are one of the list
abbrev pub IsIn : List (List ℕ) → (bytes : List ℕ) → Type 0
IsIn [] bytes = ⊥
IsIn (one ∷ list) bytes = (bytes ≡ one) ⊎ IsIn list bytes

-- the same by computation
abbrev pub is_among : List (List ℕ) → (bytes : List ℕ) → Bool
is_among list bytes = list_any (bytes_eq bytes) list

-- each is such a name, and none stands twice
abbrev pub are_entry_names : List (List ℕ) → Bool
are_entry_names [] = true
are_entry_names (name ∷ names) = is_entry_name name && not (is_among names name) && are_entry_names names

-- what a lister may say of a directory
abbrev pub IsListing : Listed → Type 0
IsListing (Names names) = are_entry_names names ≡ true
IsListing NoDirectory = Unit {0}

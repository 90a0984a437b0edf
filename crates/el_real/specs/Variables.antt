-- The variables of a process, as its environment's entries hold them.
use Rattle.std.specs.Prelude.{◌≡◌, ℕ, Bool, ◌&&◌, ◌==◌, nat_lt, List, [], ◌∷◌, length, Option, None, Some, bytes_eq, if◌then◌else◌}
use Rattle.std.specs.List.{position_or_len, before_first, after_first}
use Rattle.std.specs.Option.{option_or}
use Rattle.std.specs.FinMap as map
use Rattle.el_env.specs.Vars.{Vars}

-- the byte between a name and its value
abbrev pub is_equals : ℕ → Bool
is_equals byte = byte == 61

-- the name and the value of an entry: what stands before its first `=` and behind it; none where there is no `=` or no name before it
abbrev pub variable_of : List ℕ → Option (List ℕ × List ℕ)
variable_of entry =
    if nat_lt 0 (position_or_len is_equals entry) && nat_lt (position_or_len is_equals entry) (length entry) then Some (before_first is_equals entry, after_first is_equals entry) else None

-- the value that an entry gives a variable
abbrev pub value_in : Option (List ℕ × List ℕ) → List ℕ → Option (List ℕ)
value_in None name = None
value_in (Some variable) name = if bytes_eq variable.0 name then Some variable.1 else None

-- the value of a variable in an environment: of two entries with its name the first counts
abbrev pub value_among : List (List ℕ) → List ℕ → Option (List ℕ)
value_among [] name = None
value_among (entry ∷ entries) name = option_or (value_in (variable_of entry) name) (value_among entries name)

-- these are the variables of an environment
abbrev pub AreVariables : List (List ℕ) → Vars → Type 0
AreVariables entries vars = (name : List ℕ) → map.get vars name ≡ value_among entries name

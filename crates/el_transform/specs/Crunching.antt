-- Crunching and chomping of whole values.
use Rattle.std.specs.Prelude.{ℕ, ◌-◌, Bool, false, ◌&&◌, not, List, ◌∷◌, Option, None, Some, map, filter, length, take, slice_get, if◌then◌else◌}
use Rattle.std.specs.List.{zip}
use Rattle.std.specs.Option.{option_map_or}
use Rattle.std.specs.Ordering.{nat_cmp}
use Rattle.std.specs.FinSet as set

-- the bytes that count as delimiters, as a set
abbrev pub Delimiters : Type 0
Delimiters = set.FinSet nat_cmp

-- the byte is a delimiter
abbrev pub is_delimiter : Delimiters → ℕ → Bool
is_delimiter delims byte = set.contains delims byte

-- each byte of a value with the one before it
abbrev pub with_before : List ℕ → List (Option ℕ × ℕ)
with_before value = zip (None ∷ map Some value) value

-- a delimiter whose byte before is a delimiter too
abbrev pub is_repeated : Delimiters → Option ℕ × ℕ → Bool
is_repeated delims (before, byte) = option_map_or (is_delimiter delims) before false && is_delimiter delims byte

-- a byte is kept unless it and the byte before it are both delimiters
abbrev pub crunched : Delimiters → List ℕ → List ℕ
crunched delims value = map (λ p. p.1) (filter (λ p. not (is_repeated delims p)) (with_before value))

-- the last byte is a delimiter; an empty value has none
abbrev pub ends_with_delimiter : Delimiters → List ℕ → Bool
ends_with_delimiter delims value = option_map_or (is_delimiter delims) (slice_get value (length value - 1)) false

-- without the last byte, where it is a delimiter
abbrev pub chomped : Delimiters → List ℕ → List ℕ
chomped delims value = if ends_with_delimiter delims value then take (length value - 1) value else value

-- Kinds of bytes, and the numbers that digits write.
use Rattle.std.specs.Prelude.{ℕ, ◌+◌, ◌-◌, ◌*◌, Bool, true, false, ◌&&◌, ◌||◌, ◌==◌, nat_le, List, [], ◌∷◌, if◌then◌else◌}
use Rattle.std.specs.List.{list_any}

-- the byte is in the list
abbrev pub is_one_of : List ℕ → ℕ → Bool
is_one_of bytes byte = list_any (λ other. other == byte) bytes

-- space, tab, newline and carriage return
abbrev pub is_whitespace : ℕ → Bool
is_whitespace byte = is_one_of (32 ∷ 9 ∷ 10 ∷ 13 ∷ []) byte

-- `0` to `9`
abbrev pub is_digit : ℕ → Bool
is_digit byte = nat_le 48 byte && nat_le byte 57

-- `0` to `7`
abbrev pub is_octal_digit : ℕ → Bool
is_octal_digit byte = nat_le 48 byte && nat_le byte 55

-- `0` to `9`, `A` to `F` and `a` to `f`
abbrev pub is_hexadecimal_digit : ℕ → Bool
is_hexadecimal_digit byte = is_digit byte || ((nat_le 65 byte && nat_le byte 70) || (nat_le 97 byte && nat_le byte 102))

-- the number of a hexadecimal digit
abbrev pub digit_value : ℕ → ℕ
digit_value byte = if is_digit byte then byte - 48 else (if nat_le byte 70 then byte - 55 else byte - 87)

-- the number that digits write behind those of n
abbrev pub number_after : (base n : ℕ) → List ℕ → ℕ
number_after base n [] = n
number_after base n (digit ∷ digits) = number_after base (n * base + digit_value digit) digits

-- the number that digits write
abbrev pub number_in : (base : ℕ) → List ℕ → ℕ
number_in base digits = number_after base 0 digits

-- the first byte of a text passes the test; an empty text has none
abbrev pub begins_with : (ℕ → Bool) → List ℕ → Bool
begins_with test [] = false
begins_with test (byte ∷ bytes) = test byte

-- the text is over, or its first byte passes the test
abbrev pub is_over_or : (ℕ → Bool) → List ℕ → Bool
is_over_or test [] = true
is_over_or test (byte ∷ bytes) = test byte

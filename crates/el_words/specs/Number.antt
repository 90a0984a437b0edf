-- Numbers as text.
use Rattle.std.specs.Prelude.{ℕ, Bool, ◌+◌, ◌-◌, ◌*◌, ◌^◌, nat_lt, List, [], ◌∷◌, Option, Some, None, if◌then◌else◌}
use Rattle.std.specs.List.{list_all}
use Rattle.std.specs.Char.{is_ascii_digit}

-- every byte is an ASCII digit; so it is without bytes
abbrev pub are_digits : List ℕ → Bool
are_digits = list_all is_ascii_digit

-- the number that digits write in decimal, behind those of n
abbrev pub decimal_value : ℕ → List ℕ → ℕ
decimal_value n [] = n
decimal_value n (digit ∷ digits) = decimal_value (10 * n + (digit - 48)) digits

-- a number of 64 bits
abbrev pub within_limit : ℕ → Option ℕ
within_limit n = if nat_lt n (2 ^ 64) then Some n else None

-- the number that a text writes: one digit or more and nothing else, with a value of 64 bits
abbrev pub number_of : List ℕ → Option ℕ
number_of [] = None
number_of (byte ∷ bytes) = if are_digits (byte ∷ bytes) then within_limit (decimal_value 0 (byte ∷ bytes)) else None

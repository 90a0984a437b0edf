-- What stands at the front of bytes, computed. Laws tie it to the text.
use Rattle.std.specs.Prelude.{ℕ, ◌==◌, List, [], ◌∷◌, length, drop, Option, Some, None, if◌then◌else◌}
use Rattle.std.specs.List.{take_while}
use Rattle.std.specs.Char.{is_ascii_digit}
use Rattle.el_transform.specs.Computed.{length_of, netstring_of}

module _ {A B : Type 0} where
  -- what is read first, and then what is read behind it
  unfoldable pub and_read : Option (A × List ℕ) → (A → List ℕ → Option (B × List ℕ)) → Option (B × List ℕ)
  and_read None next = None
  and_read (Some found) next = next found.0 found.1

-- one byte
abbrev pub byte_of : List ℕ → Option (ℕ × List ℕ)
byte_of [] = None
byte_of (byte ∷ rest) = Some (byte, rest)

-- a semicolon behind a number
abbrev pub cut_semicolon : Option ℕ → List ℕ → Option (ℕ × List ℕ)
cut_semicolon None bytes = None
cut_semicolon (Some n) [] = None
cut_semicolon (Some n) (byte ∷ rest) = if byte == 59 then Some (n, rest) else None

-- a number of 64 bits without leading zeros, and its semicolon
unfoldable pub number_of_front : List ℕ → Option (ℕ × List ℕ)
number_of_front bytes = let digits = take_while is_ascii_digit bytes in cut_semicolon (length_of digits) (drop (length digits) bytes)

-- the bytes of a netstring
unfoldable pub bytes_of_front : List ℕ → Option (List ℕ × List ℕ)
bytes_of_front bytes = netstring_of bytes

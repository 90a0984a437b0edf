-- What words are made of, with its text and its value.
use Rattle.std.specs.Prelude.{ℕ, Bool, true, false, ◌&&◌, ◌||◌, not, ◌==◌, nat_le, nat_lt, List, [], ◌∷◌, ◌++◌, length, if◌then◌else◌}
use Rattle.std.specs.List.{list_all, flat_map}
use Rattle.el_lex.specs.Bytes.{is_one_of, is_whitespace, is_digit, is_octal_digit, is_hexadecimal_digit, number_in, begins_with}

-- what stands inside quotes: a byte for itself; a backslash and a byte that is no digit; a number escape, by its digits
pub data Inner : Type 0 where
  Bare Named : ℕ → Inner
  Hexadecimal Octal Decimal : (digits : List ℕ) → Inner

-- a plain byte, a backslash with its byte, or a quoted string
pub data Piece : Type 0 where
  Plain Escaped : ℕ → Piece
  Quoted : List Inner → Piece

-- ---- texts: a quote is byte 34, a backslash 92, `0` 48 and `x` 120

-- how something in quotes is written
abbrev pub inner_text : Inner → List ℕ
inner_text (Bare byte) = byte ∷ []
inner_text (Named byte) = 92 ∷ byte ∷ []
inner_text (Hexadecimal digits) = 92 ∷ 48 ∷ 120 ∷ digits
inner_text (Octal digits) = 92 ∷ 48 ∷ digits
inner_text (Decimal digits) = 92 ∷ digits

-- how all in quotes is written
abbrev pub inners_text : List Inner → List ℕ
inners_text inners = flat_map inner_text inners

-- how a piece is written
abbrev pub piece_text : Piece → List ℕ
piece_text (Plain byte) = byte ∷ []
piece_text (Escaped byte) = 92 ∷ byte ∷ []
piece_text (Quoted inners) = 34 ∷ (inners_text inners ++ 34 ∷ [])

-- how a word is written
abbrev pub pieces_text : List Piece → List ℕ
pieces_text pieces = flat_map piece_text pieces

-- ---- values

-- the bytes 7 to 13 by `\a \b \t \n \v \f \r`, nothing by a backslash and newline, and any other byte by itself
abbrev pub named : ℕ → List ℕ
named byte =
    if byte == 97 then 7 ∷ [] else (if byte == 98 then 8 ∷ [] else (if byte == 116 then 9 ∷ [] else (if byte == 110 then 10 ∷ []
    else (if byte == 118 then 11 ∷ [] else (if byte == 102 then 12 ∷ [] else (if byte == 114 then 13 ∷ [] else (if byte == 10 then [] else byte ∷ [])))))))

-- the bytes that something in quotes stands for
abbrev pub inner_value : Inner → List ℕ
inner_value (Bare byte) = byte ∷ []
inner_value (Named byte) = named byte
inner_value (Hexadecimal digits) = number_in 16 digits ∷ []
inner_value (Octal digits) = number_in 8 digits ∷ []
inner_value (Decimal digits) = number_in 10 digits ∷ []

-- the bytes that all in quotes stands for
abbrev pub inners_value : List Inner → List ℕ
inners_value inners = flat_map inner_value inners

-- the bytes that a piece stands for
abbrev pub piece_value : Piece → List ℕ
piece_value (Plain byte) = byte ∷ []
piece_value (Escaped byte) = byte ∷ []
piece_value (Quoted inners) = inners_value inners

-- the bytes of a word
abbrev pub pieces_value : List Piece → List ℕ
pieces_value pieces = flat_map piece_value pieces

-- ---- which of them fit before what stands after them

-- the digits are those of the longest run within the limit
abbrev pub is_longest_run : (test : ℕ → Bool) → (most : ℕ) → (digits after : List ℕ) → Bool
is_longest_run test most digits after = list_all test digits && (nat_le (length digits) most && ((length digits == most) || not (begins_with test after)))

-- a number escape by its digits, whatever its number is
abbrev pub is_number_escape : Inner → (after : List ℕ) → Bool
is_number_escape (Bare byte) after = false
is_number_escape (Named byte) after = false
is_number_escape (Hexadecimal digits) after = is_longest_run is_hexadecimal_digit 2 digits after && not (length digits == 0)
is_number_escape (Octal digits) after = is_longest_run is_octal_digit 3 digits after && not ((length digits == 0) && begins_with (λ byte. byte == 120) after)
is_number_escape (Decimal digits) after = is_longest_run is_digit 3 digits after && begins_with (λ byte. not (byte == 48)) digits

-- the number of a number escape
abbrev pub escape_number : Inner → ℕ
escape_number (Bare byte) = 0
escape_number (Named byte) = 0
escape_number (Hexadecimal digits) = number_in 16 digits
escape_number (Octal digits) = number_in 8 digits
escape_number (Decimal digits) = number_in 10 digits

-- a number of a byte that isn't NUL
abbrev pub is_byte_value : ℕ → Bool
is_byte_value number = nat_lt 0 number && nat_lt number 256

-- one of these before the text behind it
abbrev pub fits_inner : Inner → (after : List ℕ) → Bool
fits_inner (Bare byte) after = not (is_one_of (0 ∷ 34 ∷ 92 ∷ []) byte)
fits_inner (Named byte) after = not ((byte == 0) || is_digit byte)
fits_inner (Hexadecimal digits) after = is_number_escape (Hexadecimal digits) after && is_byte_value (escape_number (Hexadecimal digits))
fits_inner (Octal digits) after = is_number_escape (Octal digits) after && is_byte_value (escape_number (Octal digits))
fits_inner (Decimal digits) after = is_number_escape (Decimal digits) after && is_byte_value (escape_number (Decimal digits))

-- all in quotes before the text behind it
abbrev pub fit_inners : List Inner → (after : List ℕ) → Bool
fit_inners [] after = true
fit_inners (inner ∷ inners) after = fits_inner inner (inners_text inners ++ after) && fit_inners inners after

-- a piece, whatever is behind it
abbrev pub fits_piece : Piece → Bool
fits_piece (Plain byte) = not (is_one_of (0 ∷ 34 ∷ 92 ∷ []) byte || is_whitespace byte)
fits_piece (Escaped byte) = not (byte == 0)
fits_piece (Quoted inners) = fit_inners inners (34 ∷ [])

-- a word's first piece is the plain byte `#` (35): then it is no word, but a comment
abbrev pub begins_comment : List Piece → Bool
begins_comment (Plain byte ∷ pieces) = byte == 35
begins_comment pieces = false

-- the pieces of a word
abbrev pub fit_pieces : List Piece → Bool
fit_pieces pieces = list_all fits_piece pieces && not (begins_comment pieces)

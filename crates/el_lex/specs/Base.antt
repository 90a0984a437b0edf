-- The bases of number escapes. Only the code's contracts need it.
use Rattle.std.specs.Prelude.{ℕ, Bool, List}
use Rattle.el_lex.specs.declared.base.Base.{Base}
use Rattle.el_lex.specs.declared.base.Base.TheVariants.{Octal as OctalBase, Decimal as DecimalBase, Hexadecimal as HexadecimalBase}
use Rattle.el_lex.specs.Bytes.{is_digit, is_octal_digit, is_hexadecimal_digit}
use Rattle.el_lex.specs.Scan.{run}
use Rattle.el_lex.specs.Pieces.{Inner, Hexadecimal, Octal, Decimal}

-- how many digits there are
abbrev pub radix : Base → ℕ
radix OctalBase = 8
radix DecimalBase = 10
radix HexadecimalBase = 16

-- the greatest number of digits of an escape
abbrev pub most_digits : Base → ℕ
most_digits OctalBase = 3
most_digits DecimalBase = 3
most_digits HexadecimalBase = 2

-- the byte is one of the digits
abbrev pub is_digit_in : Base → ℕ → Bool
is_digit_in OctalBase byte = is_octal_digit byte
is_digit_in DecimalBase byte = is_digit byte
is_digit_in HexadecimalBase byte = is_hexadecimal_digit byte

-- the digits that a number takes from the front of a text
abbrev pub digits_in : Base → List ℕ → List ℕ
digits_in base bytes = run (is_digit_in base) (most_digits base) bytes

-- the escape with the digits in front of a text
abbrev pub number_escape : Base → List ℕ → Inner
number_escape OctalBase bytes = Octal (digits_in OctalBase bytes)
number_escape DecimalBase bytes = Decimal (digits_in DecimalBase bytes)
number_escape HexadecimalBase bytes = Hexadecimal (digits_in HexadecimalBase bytes)

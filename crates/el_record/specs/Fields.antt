-- Numbers and bytes as text, each before the bytes that follow it.
use Rattle.std.specs.Prelude.{ℕ, List, ◌∷◌, ◌++◌, length}
use Rattle.std.specs.Fmt.{decimal}

-- a number in decimal and a semicolon (59)
abbrev pub number_before : ℕ → List ℕ → List ℕ
number_before n rest = decimal n ++ 59 ∷ rest

-- a netstring: the length in decimal, a colon (58), the bytes and a comma (44)
abbrev pub bytes_before : List ℕ → List ℕ → List ℕ
bytes_before bytes rest = decimal (length bytes) ++ 58 ∷ (bytes ++ 44 ∷ rest)

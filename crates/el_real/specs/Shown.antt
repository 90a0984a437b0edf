-- How a text that others wrote is shown in a line.
use Rattle.std.specs.Prelude.{◌≡◌, ◌⊎◌, ℕ, Bool, true, not, List, [], ◌∷◌, ◌++◌, length, take, map, nat_lt, codes, if◌then◌else◌}
use Rattle.std.specs.List.{list_all}
use Rattle.std.specs.Char.{is_ascii_control}

-- a byte as it is shown: a control byte is a question mark
abbrev pub shown_byte : ℕ → ℕ
shown_byte byte = if is_ascii_control byte then 63 else byte

-- bytes as they are shown
abbrev pub plain : List ℕ → List ℕ
plain bytes = map shown_byte bytes

-- so many bytes of a text are shown at most
abbrev pub max_shown : ℕ
max_shown = 400

-- the first bytes of a text as they are shown, and two dots if there are more
abbrev pub cut : List ℕ → List ℕ
cut text = plain (take max_shown text) ++ (if nat_lt max_shown (length text) then codes ".." else [])

-- a text as it is shown: two quotes if it is empty
abbrev pub shown : List ℕ → List ℕ
shown [] = codes "\"\""
shown text = cut text

-- no byte of these is a control byte
abbrev pub are_plain : List ℕ → Bool
are_plain bytes = list_all (λ byte. not (is_ascii_control byte)) bytes

-- nothing, or one line: no byte but the newline (10) at its end is a control byte
abbrev pub IsLine : List ℕ → Type 0
IsLine line = (line ≡ []) ⊎ ((bytes : List ℕ) × (line ≡ bytes ++ 10 ∷ []) × (are_plain bytes ≡ true))

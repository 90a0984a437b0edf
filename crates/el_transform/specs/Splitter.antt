-- The values of an input that comes piece by piece. Only the code's contracts and laws need it.
use Rattle.std.specs.Prelude.{◌≡◌, ℕ, Bool, true, false, ◌&&◌, List, [], ◌∷◌, ◌++◌, Option, None, Some, if◌then◌else◌}
use Rattle.el_transform.specs.Crunching.{Delimiters, is_delimiter}
use Rattle.el_transform.specs.Splitting.{has_delimiter, last_word}

-- whether runs of delimiters are crunched, the delimiters, the bytes of the unfinished value, and whether the last byte fed was a delimiter
pub record Splitting : Type 0 where
  pub crunch : Bool
  pub delims : Delimiters
  pub unfinished : List ℕ
  pub is_after_delimiter : Bool

-- before the first byte
abbrev pub starting : (crunch : Bool) → Delimiters → Splitting
starting crunch delims = record { crunch = crunch; delims = delims; unfinished = []; is_after_delimiter = false }

-- with crunching, a delimiter behind a delimiter is passed over
abbrev pub is_passed_over : Splitting → ℕ → Bool
is_passed_over splitting byte = splitting.crunch && splitting.is_after_delimiter && is_delimiter splitting.delims byte

-- the unfinished value has ended
abbrev pub ended : Splitting → Splitting
ended splitting = record splitting { unfinished = []; is_after_delimiter = true }

-- the unfinished value goes on with this byte
abbrev pub grown : Splitting → ℕ → Splitting
grown splitting byte = record splitting { unfinished = splitting.unfinished ++ byte ∷ []; is_after_delimiter = false }

-- what is kept once the bytes of a piece were fed
abbrev pub fed : Splitting → (piece : List ℕ) → Splitting
fed splitting [] = splitting
fed splitting (byte ∷ piece) =
    if is_passed_over splitting byte then fed splitting piece
    else (if is_delimiter splitting.delims byte then fed (ended splitting) piece else fed (grown splitting byte) piece)

-- the values that end in a piece: at each delimiter that isn't passed over, the value so far
abbrev pub values_of : Splitting → (piece : List ℕ) → List (List ℕ)
values_of splitting [] = []
values_of splitting (byte ∷ piece) =
    if is_passed_over splitting byte then values_of splitting piece
    else (if is_delimiter splitting.delims byte then splitting.unfinished ∷ values_of (ended splitting) piece else values_of (grown splitting byte) piece)

-- the last value, where bytes are unfinished
abbrev pub last_value : List ℕ → Option (List ℕ)
last_value [] = None
last_value (byte ∷ bytes) = Some (byte ∷ bytes)

-- what is kept once pieces were fed one after the other
abbrev pub fed_all : Splitting → (pieces : List (List ℕ)) → Splitting
fed_all splitting [] = splitting
fed_all splitting (piece ∷ pieces) = fed_all (fed splitting piece) pieces

-- the values of each piece in turn, and then the last one, where bytes are unfinished
abbrev pub all_values : Splitting → (pieces : List (List ℕ)) → List (List ℕ)
all_values splitting [] = last_word splitting.unfinished
all_values splitting (piece ∷ pieces) = values_of splitting piece ++ all_values (fed splitting piece) pieces

-- the bytes after the last delimiter, which are all of them where none is a delimiter
abbrev pub after_last : Delimiters → List ℕ → List ℕ
after_last delims [] = []
after_last delims (byte ∷ bytes) = if has_delimiter delims (byte ∷ bytes) then after_last delims bytes else byte ∷ bytes

-- no unfinished byte is a delimiter, and behind a delimiter none is there
pub record IsUnfinished (splitting : Splitting) : Type 0 where
  pub has_none : has_delimiter splitting.delims splitting.unfinished ≡ false
  pub none_behind : splitting.is_after_delimiter ≡ true → splitting.unfinished ≡ []

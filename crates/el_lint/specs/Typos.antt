-- Words that are a typing mistake away from a program's name.
use Rattle.el_room.specs.Vocabulary.{bytes_eq, Prog, name_text}
use Rattle.std.specs.Prelude.{ℕ, Bool, false, ◌&&◌, ◌||◌, ◌==◌, List, [], ◌∷◌, length, Option, find, if◌then◌else◌}
use Rattle.el_lint.specs.declared.typo.TheConstants.{LONG_NAMED}

-- two words begin with the same two bytes turned round, and go on alike
abbrev pub is_turned : List ℕ → List ℕ → Bool
is_turned (one ∷ next ∷ bytes) (other ∷ behind ∷ others) = (one == behind) && ((next == other) && bytes_eq bytes others)
is_turned _ _ = false

-- Two words that don't begin alike differ by one edit: the first byte of one is left out, or is another one, or the first two are turned
-- round.
abbrev pub is_edited : List ℕ → List ℕ → Bool
is_edited [] others = length others == 1
is_edited (byte ∷ bytes) [] = length bytes == 0
is_edited (byte ∷ bytes) (other ∷ others) = bytes_eq bytes (other ∷ others) || (bytes_eq (byte ∷ bytes) others || (bytes_eq bytes others || is_turned (byte ∷ bytes) (other ∷ others)))

-- two words differ by one edit, behind what they begin with alike
abbrev pub is_one_edit : List ℕ → List ℕ → Bool
is_one_edit [] others = is_edited [] others
is_one_edit (byte ∷ bytes) [] = is_edited (byte ∷ bytes) []
is_one_edit (byte ∷ bytes) (other ∷ others) = if byte == other then is_one_edit bytes others else is_edited (byte ∷ bytes) (other ∷ others)

-- The program of whose name a word is a typing mistake. Shorter names than those looked at are too near other commands, as `cd` is to `cp`.
abbrev pub misspelled : (word : List ℕ) → Option Prog
misspelled word = find (λ program. is_one_edit word (name_text program)) LONG_NAMED

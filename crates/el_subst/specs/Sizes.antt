-- How large lists of words are. The code counts by this before it makes any word. Only the code's contracts need it.
use Rattle.std.specs.Prelude.{◌≡◌, ℕ, ◌+◌, ◌-◌, ◌^◌, ◌<◌, ◌≤◌, List, ◌++◌, map, min, length}
use Rattle.std.specs.List.{flat_map, sum_by}
use Rattle.el_words.specs.Room.{Filling}
use Rattle.el_subst.specs.declared.size.Size.{Size}

-- each of the first words before each of the others
abbrev pub joins : List (List ℕ) → List (List ℕ) → List (List ℕ)
joins firsts others = flat_map (λ first. map (λ other. first ++ other) others) firsts

-- the lengths of the words, added up
abbrev pub bytes_in : List (List ℕ) → ℕ
bytes_in words = sum_by length words

-- a number, or the greatest of 64 bits where it is above that
abbrev pub capped : ℕ → ℕ
capped n = min n (2 ^ 64 - 1)

-- how many words and bytes a list of words has
abbrev pub size_of : List (List ℕ) → Size
size_of words = record { words = capped (length words); bytes = capped (bytes_in words) }

-- there is room for these words, whose number has 64 bits
pub record HasRoom (filling : Filling) (texts : List (List ℕ)) : Type 0 where
  pub few : length texts < 2 ^ 64
  pub words : length texts ≤ filling.spare_words
  pub bytes : bytes_in texts ≤ filling.spare_bytes

-- these words were put last, into the room that there was
pub record Puts (old new : Filling) (texts : List (List ℕ)) : Type 0 where
  pub words : new.words ≡ old.words ++ texts
  pub spare_words : new.spare_words + length texts ≡ old.spare_words
  pub spare_bytes : new.spare_bytes + bytes_in texts ≡ old.spare_bytes

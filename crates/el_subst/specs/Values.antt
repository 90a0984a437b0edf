-- The value of a word, and of a list of words, under one substitution.
use Rattle.std.specs.Prelude.{ℕ, ◌/◌, ◌%◌, ◌==◌, List, [], ◌∷◌, ◌++◌, map, Option, Some, None, if◌then◌else◌}
use Rattle.std.specs.List.{flat_map}
use Rattle.std.specs.Str.{bytes_eq}
use Rattle.el_subst.specs.Parts.{Part, Byte, Reference, slashes, parts_of}

-- pairs of a key and its words, used in parallel
abbrev pub Pairs : Type 0
Pairs = List (List ℕ × List (List ℕ))

-- the words of the first pair with this key
abbrev pub words_of : Pairs → List ℕ → Option (List (List ℕ))
words_of [] key = None
words_of (pair ∷ pairs) key = if bytes_eq pair.0 key then Some pair.1 else words_of pairs key

-- What a reference with n backslashes may become: without a pair it stays, with all of them; with a pair and an odd number
-- half of them remain and its text; with an even number half of them remain, and each word of the value is put in turn.
abbrev pub chosen : ℕ → List ℕ → Option (List (List ℕ)) → List (List ℕ)
chosen n text None = (slashes n ++ text) ∷ []
chosen n text (Some values) = if n % 2 == 1 then (slashes (n / 2) ++ text) ∷ [] else map (λ value. slashes (n / 2) ++ value) values

-- what a part may become
abbrev pub choices : Pairs → Part → List (List ℕ)
choices pairs (Byte byte) = (byte ∷ []) ∷ []
choices pairs (Reference n key text) = chosen n text (words_of pairs key)

-- one choice from each list, joined, the leftmost varying slowest
abbrev pub products : List (List (List ℕ)) → List (List ℕ)
products [] = [] ∷ []
products (choice ∷ choices) = flat_map (λ first. map (λ rest. first ++ rest) (products choices)) choice

-- the words that a word becomes
abbrev pub word_value : Pairs → List ℕ → List (List ℕ)
word_value pairs word = products (map (choices pairs) (parts_of word))

-- and a list of words, in order
abbrev pub words_value : Pairs → List (List ℕ) → List (List ℕ)
words_value pairs words = flat_map (word_value pairs) words

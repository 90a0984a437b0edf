-- How a block is found again at the front of a list of words.
use Rattle.std.specs.Prelude.{ℕ, suc, Bool, true, false, not, ◌==◌, List, [], ◌∷◌, ◌++◌, take, map, Option, position, if◌then◌else◌}
use Rattle.el_words.specs.Args.{Args, spelled, indented}

-- a word has no byte
abbrev pub is_empty_word : List ℕ → Bool
is_empty_word [] = true
is_empty_word (byte ∷ bytes) = false

-- the words before the first empty one
abbrev pub block_length : List (List ℕ) → Option ℕ
block_length words = position is_empty_word words

-- a word begins with a space (32)
abbrev pub is_quoted : List ℕ → Bool
is_quoted [] = false
is_quoted (byte ∷ bytes) = byte == 32

-- the first of so many words that has no leading space
abbrev pub first_unquoted_of : ℕ → List (List ℕ) → Option ℕ
first_unquoted_of count words = position (λ word. not (is_quoted word)) (take count words)

-- a word without its leading space, where it has one
abbrev pub unquoted : List ℕ → List ℕ
unquoted [] = []
unquoted (byte ∷ bytes) = if byte == 32 then bytes else byte ∷ bytes

-- the first of so many words, each without its leading space
abbrev pub unspelled : ℕ → List (List ℕ) → List (List ℕ)
unspelled count words = map unquoted (take count words)

-- the spelling of a block: its items one level deeper, and its end
abbrev pub block_words : ℕ → Args → List (List ℕ)
block_words depth inside = spelled (suc depth) inside ++ (indented depth [] ∷ [])

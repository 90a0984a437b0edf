-- The words of a value, computed: for definitions that need them as a value. What they mean is said by
-- the relations of the other files, and laws tie these functions to them.
use Rattle.std.specs.Prelude.{◌≡◌, ℕ, zero, suc, ◌+◌, ◌-◌, nat_eq, Bool, true, false, ◌&&◌, ◌==◌, List, [], ◌∷◌, ◌++◌, length, take, drop, Option, Some, None, if◌then◌else◌, Result, Ok, Err}
use Rattle.std.specs.List.{take_while, list_any}
use Rattle.std.specs.Char.{is_ascii_digit}
use Rattle.el_words.specs.Number.{number_of}
use Rattle.el_transform.specs.declared.transforming.How.{How}
use Rattle.el_transform.specs.declared.transforming.TransformFault.{TransformFault}
use Rattle.el_transform.specs.declared.transforming.TransformFault.TheVariants.{BadNetstring, NoMemory}
use Rattle.el_transform.specs.Crunching.{is_delimiter}
use Rattle.el_transform.specs.Splitting.{last_word}
use Rattle.el_transform.specs.Transform.{has_no_delimiters}

-- what is done to a value, with the delimiters as a test
pub record Rules : Type 0 where
  pub crunch : Bool
  pub chomp : Bool
  pub split : Bool
  pub no_delimiters : Bool
  pub ends_word : ℕ → Bool

-- the bytes that stay behind one that is a delimiter or isn't
abbrev pub crunched_after : (ℕ → Bool) → (after : Bool) → List ℕ → List ℕ
crunched_after test after [] = []
crunched_after test after (byte ∷ bytes) = if after && test byte then crunched_after test true bytes else byte ∷ crunched_after test (test byte) bytes

-- without the last byte, where it passes the test
abbrev pub chomped_by : (ℕ → Bool) → List ℕ → List ℕ
chomped_by test [] = []
chomped_by test (byte ∷ []) = if test byte then [] else byte ∷ []
chomped_by test (byte ∷ next ∷ bytes) = byte ∷ chomped_by test (next ∷ bytes)

-- the words of bytes that stand behind the bytes of a word
abbrev pub split_behind : (ℕ → Bool) → List ℕ → List ℕ → List (List ℕ)
split_behind test word [] = last_word word
split_behind test word (byte ∷ bytes) = if test byte then word ∷ split_behind test [] bytes else split_behind test (word ++ byte ∷ []) bytes

-- a decimal length without leading zeros
abbrev pub length_of : List ℕ → Option ℕ
length_of [] = None
length_of (digit ∷ []) = number_of (digit ∷ [])
length_of (digit ∷ next ∷ digits) = if digit == 48 then None else number_of (digit ∷ next ∷ digits)

-- a word that a comma ends, and the bytes behind it
abbrev pub cut_comma : List ℕ → List ℕ → Option (List ℕ × List ℕ)
cut_comma word [] = None
cut_comma word (byte ∷ rest) = if byte == 44 then Some (word, rest) else None

-- a colon, so many bytes and a comma
abbrev pub cut_word : Option ℕ → List ℕ → Option (List ℕ × List ℕ)
cut_word None bytes = None
cut_word (Some count) [] = None
cut_word (Some count) (byte ∷ bytes) = if byte == 58 then cut_comma (take count bytes) (drop count bytes) else None

-- the word of the netstring that bytes begin with, and the bytes behind it
abbrev pub netstring_of : List ℕ → Option (List ℕ × List ℕ)
netstring_of bytes = let digits = take_while is_ascii_digit bytes in cut_word (length_of digits) (drop (length digits) bytes)

-- a word before the words of what follows, or the place at which that fails, so many bytes further on
abbrev pub word_before : List ℕ → ℕ → Result (List (List ℕ)) ℕ → Result (List (List ℕ)) ℕ
word_before word count (Ok words) = Ok (word ∷ words)
word_before word count (Err at) = Err (count + at)

-- what comes of the first netstring, or place 0 where none begins
abbrev pub after_first : Option (List ℕ × List ℕ) → (List ℕ → List ℕ → Result (List (List ℕ)) ℕ) → Result (List (List ℕ)) ℕ
after_first None next = Err 0
after_first (Some (word, rest)) next = next word rest

-- the words of netstrings, at most `most` of them, or the place at which none begins
abbrev pub netstrings_of : (most : ℕ) → List ℕ → Result (List (List ℕ)) ℕ
netstrings_of most [] = Ok []
netstrings_of zero (byte ∷ bytes) = Err 0
netstrings_of (suc most) (byte ∷ bytes) =
    after_first (netstring_of (byte ∷ bytes)) (λ word rest. word_before word (length (byte ∷ bytes) - length rest) (netstrings_of most rest))

-- a value after crunching and chomping by the rules
abbrev pub prepared_by : Rules → List ℕ → List ℕ
prepared_by rules value =
    let kept = if rules.crunch then crunched_after rules.ends_word false value else value in
    if rules.chomp then chomped_by rules.ends_word kept else kept

-- the words of prepared bytes, or the place of the bad netstring
abbrev pub parted_by : Rules → List ℕ → Result (List (List ℕ)) ℕ
parted_by rules bytes =
    if rules.split
    then (if rules.no_delimiters then netstrings_of (length bytes) bytes else Ok (split_behind rules.ends_word [] bytes))
    else Ok (bytes ∷ [])

-- the words that the rules make of a value, or the place of the bad netstring
abbrev pub words_by : Rules → List ℕ → Result (List (List ℕ)) ℕ
words_by rules value = parted_by rules (prepared_by rules value)

-- the rules that are asked for
abbrev pub rules_of : How → Rules
rules_of how = record {
  crunch = how.crunch;
  chomp = how.chomp;
  split = how.split;
  no_delimiters = has_no_delimiters how;
  ends_word = is_delimiter how.delims;
}

-- rules with the delimiters as a list. The words by these compute on literal values, which those by a
-- finite set don't, since its `contains` and `len` are known by their laws alone
abbrev pub listed_rules : (crunch chomp split : Bool) → List ℕ → Rules
listed_rules crunch chomp split delims = record {
  crunch = crunch;
  chomp = chomp;
  split = split;
  no_delimiters = length delims == 0;
  ends_word = λ byte. list_any (λ delimiter. nat_eq delimiter byte) delims;
}

-- the words of a value, or the place of the bad netstring
abbrev pub transformed : How → List ℕ → Result (List (List ℕ)) ℕ
transformed how = words_by (rules_of how)

-- what a call answers is the computed answer, or want of memory
abbrev pub IsAnswer : Result (List (List ℕ)) ℕ → Result (List (List ℕ)) TransformFault → Type 0
IsAnswer answer (Ok words) = answer ≡ Ok words
IsAnswer answer (Err (BadNetstring at)) = answer ≡ Err at
IsAnswer answer (Err NoMemory) = Unit {0}

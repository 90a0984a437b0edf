-- How option words are read.
use Rattle.std.specs.Prelude.{◌≡◌, ℕ, ◌+◌, Bool, true, false, ◌==◌, List, [], ◌∷◌, ◌++◌, map, length, Option, Some, None, if◌then◌else◌}
use Rattle.std.specs.Str.{bytes_eq}
use Rattle.el_options.specs.declared.table.Opt.{Opt}

-- ---- what is read

-- the value of a letter: the bytes of a word from a place on. The words are numbered from 0, the program's name among them.
pub record Value : Type 0 where
  pub word : ℕ
  pub from : ℕ
  pub text : List ℕ

-- a letter, with its value where it takes one
pub record Letter : Type 0 where
  pub letter : ℕ
  pub value : Option Value

-- a letter without a value
abbrev pub flag : ℕ → Letter
flag letter = record { letter = letter; value = None }

-- a letter with this value
abbrev pub with_value : ℕ → Value → Letter
with_value letter value = record { letter = letter; value = Some value }

-- the letters, how many words were read, the words behind them, and whether `--` was read; or the first bad letter
pub data Reading : Type 0 where
  Unknown NoValue : (letter : ℕ) → Reading
  LettersRead : List Letter → (used : ℕ) → (rest : List (List ℕ)) → (ended : Bool) → Reading

-- ---- one word

-- whether a letter takes a value; none where it isn't known
abbrev pub takes : List Opt → (letter : ℕ) → Option Bool
takes [] letter = None
takes (opt ∷ opts) letter = if opt.letter == letter then Some opt.takes else takes opts letter

-- a cluster: letters without values; such letters and then one that takes a value, with the rest of its word; or the first
-- unknown letter
pub data Cluster : Type 0 where
  Flags : List ℕ → Cluster
  Last : (before : List ℕ) → (letter : ℕ) → (rest : List ℕ) → Cluster
  Bad : (letter : ℕ) → Cluster

-- a cluster with one more letter without a value in front
abbrev pub after_flag : ℕ → Cluster → Cluster
after_flag letter (Flags letters) = Flags (letter ∷ letters)
after_flag letter (Last before last rest) = Last (letter ∷ before) last rest
after_flag letter (Bad bad) = Bad bad

-- a cluster by its first letter: an unknown one ends it, and one that takes a value takes the rest of the word
abbrev pub cluster_by : Option Bool → (letter : ℕ) → (rest : List ℕ) → (more : Cluster) → Cluster
cluster_by None letter rest more = Bad letter
cluster_by (Some true) letter rest more = Last [] letter rest
cluster_by (Some false) letter rest more = after_flag letter more

-- the cluster that these bytes behind a `-` are
abbrev pub cluster_of : List Opt → List ℕ → Cluster
cluster_of opts [] = Flags []
cluster_of opts (letter ∷ rest) = cluster_by (takes opts letter) letter rest (cluster_of opts rest)

-- what a word is where options are read: no option word; `--`; or a cluster of letters behind its `-` (45)
pub data Shown : Type 0 where
  Plain Dashes : Shown
  Letters : Cluster → Shown

-- what a word is by the bytes behind its `-`; `-` alone is no option word
abbrev pub shown_behind_dash : List Opt → List ℕ → Shown
shown_behind_dash opts [] = Plain
shown_behind_dash opts (byte ∷ bytes) = if bytes_eq (byte ∷ bytes) (45 ∷ []) then Dashes else Letters (cluster_of opts (byte ∷ bytes))

-- what a word is by its bytes; an empty word is no option word
abbrev pub shown : List Opt → List ℕ → Shown
shown opts [] = Plain
shown opts (byte ∷ bytes) = if byte == 45 then shown_behind_dash opts bytes else Plain

-- ---- all words

-- these letters in front
abbrev pub in_front : List Letter → Reading → Reading
in_front letters (Unknown letter) = Unknown letter
in_front letters (NoValue letter) = NoValue letter
in_front letters (LettersRead more used rest ended) = LettersRead (letters ++ more) used rest ended

-- one word, the one with this number, and what is read behind it, where a letter may still want the next word as its value
abbrev pub word_read : Shown → (at : ℕ) → (word : List ℕ) → (words : List (List ℕ)) → (next : Option ℕ → Reading) → Reading
word_read Plain at word words next = LettersRead [] at (word ∷ words) false
word_read Dashes at word words next = LettersRead [] (at + 1) words true
word_read (Letters (Flags letters)) at word words next = in_front (map flag letters) (next None)
word_read (Letters (Bad letter)) at word words next = Unknown letter
word_read (Letters (Last before letter [])) at word words next = in_front (map flag before) (next (Some letter))
word_read (Letters (Last before letter (byte ∷ bytes))) at word words next =
    in_front (map flag before ++ with_value letter (record { word = at; from = length before + 2; text = byte ∷ bytes }) ∷ []) (next None)

-- the words from the one with this number on, of which the first may be the value of a letter
abbrev pub read_from : List Opt → (at : ℕ) → (wanted : Option ℕ) → List (List ℕ) → Reading
read_from opts at None [] = LettersRead [] at [] false
read_from opts at (Some letter) [] = NoValue letter
read_from opts at (Some letter) (word ∷ words) = in_front (with_value letter (record { word = at; from = 0; text = word }) ∷ []) (read_from opts (at + 1) None words)
read_from opts at None (word ∷ words) = word_read (shown opts word) at word words (λ wanted. read_from opts (at + 1) wanted words)

-- all words, of which the first is the program's name
abbrev pub reading : List Opt → List (List ℕ) → Reading
reading opts [] = LettersRead [] 0 [] false
reading opts (name ∷ words) = read_from opts 1 None words

-- reading stops before these words: there are none, or the first is no option word
abbrev pub StopsAt : List Opt → List (List ℕ) → Type 0
StopsAt opts [] = Unit {0}
StopsAt opts (word ∷ words) = shown opts word ≡ Plain

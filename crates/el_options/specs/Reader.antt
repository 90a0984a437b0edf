-- How far options are read, for the reader's own contracts.
use Rattle.std.specs.Prelude.{◌≡◌, ℕ, suc, ◌+◌, ◌<◌, ◌≤◌, Bool, true, false, List, [], ◌∷◌, ◌++◌, map, drop, length, sum_by, Option, Some, None, slice_index_or}
use Rattle.el_options.specs.declared.table.Opt.{Opt}
use Rattle.el_options.specs.declared.read.Slot.{Slot}
use Rattle.el_options.specs.Reading.{Letter, flag, with_value, Reading, Unknown, Cluster, Flags, Last, Bad, cluster_of, in_front, read_from, reading}
use Rattle.el_options.specs.Slots.{slots_of, IsRead}

-- an option word: a `-` (45) and a byte behind it at least
abbrev pub IsOption : List ℕ → Type 0
IsOption word = (1 < length word) × (slice_index_or word 0 0 ≡ 45)

-- the letter at a place of a table
abbrev pub letter_at : List Opt → (place : ℕ) → ℕ
letter_at opts place = (slice_index_or opts place (record { letter = 0; takes = false })).letter

-- what is read behind a cluster whose letters stand from this byte of its word on
abbrev pub cluster_read : Cluster → (at from : ℕ) → (next : Option ℕ → Reading) → Reading
cluster_read (Flags letters) at from next = in_front (map flag letters) (next None)
cluster_read (Bad letter) at from next = Unknown letter
cluster_read (Last before letter []) at from next = in_front (map flag before) (next (Some letter))
cluster_read (Last before letter (byte ∷ bytes)) at from next =
    in_front (map flag before ++ with_value letter (record { word = at; from = length before + suc from; text = byte ∷ bytes }) ∷ []) (next None)

-- what is read from the word with this number on
abbrev pub behind : List Opt → (words : List (List ℕ)) → (used : ℕ) → (wanted : Option ℕ) → Reading
behind opts words used wanted = read_from opts used wanted (drop used words)

-- the bytes of these words
abbrev pub bytes_in : List (List ℕ) → ℕ
bytes_in words = sum_by length words

-- how many letters are still to be counted: the one that wants the next word as its value
abbrev pub wanting : Option ℕ → ℕ
wanting None = 0
wanting (Some letter) = 1

-- So many words are read, with these slots and this count of letters, and this letter wants the next word as its value. Each
-- letter is a byte of the words read, so that the count and the bytes that are left are at most all bytes.
pub record IsAt (opts : List Opt) (words : List (List ℕ)) (wanted : Option ℕ) (slots : List Slot) (count used : ℕ) : Type 0 where
  pub letters : List Letter
  pub are_slots : slots ≡ slots_of opts letters
  pub is_count : count ≡ length letters
  pub is_within : used ≤ length words
  pub has_bytes : count + wanting wanted + bytes_in (drop used words) ≤ bytes_in words
  pub is_reading : reading opts words ≡ in_front letters (behind opts words used wanted)

-- the same inside a cluster, before this byte of the word with this number
pub record IsInside (opts : List Opt) (words : List (List ℕ)) (at from : ℕ) (slots : List Slot) (count : ℕ) : Type 0 where
  pub letters : List Letter
  pub are_slots : slots ≡ slots_of opts letters
  pub is_count : count ≡ length letters
  pub is_within : at < length words
  pub has_bytes : count + length (drop from (slice_index_or words at [])) + bytes_in (drop (at + 1) words) ≤ bytes_in words
  pub is_reading : reading opts words ≡ in_front letters (cluster_read (cluster_of opts (drop from (slice_index_or words at []))) at from (behind opts words (at + 1)))

-- a word is read, and the letter at this place, if any, wants the next one
abbrev pub IsWanting : List Opt → (words : List (List ℕ)) → (slots : List Slot) → (count used : ℕ) → (place : Option ℕ) → Type 0
IsWanting opts words slots count used None = IsAt opts words None slots count used
IsWanting opts words slots count used (Some place) = (place < length opts) × IsAt opts words (Some (letter_at opts place)) slots count used

-- reading goes on behind this many words, more than before, or has ended
abbrev pub IsStep : List Opt → (words : List (List ℕ)) → (before : ℕ) → (slots : List Slot) → (count used : ℕ) → (goes_on : Bool) → Type 0
IsStep opts words before slots count used true = (before < used) × IsAt opts words None slots count used
IsStep opts words before slots count used false = IsRead opts (reading opts words) slots used

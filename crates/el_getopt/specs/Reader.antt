-- How far arguments are read. Only the code's contracts need it.
use Rattle.el_room.specs.Vocabulary.{list_all, is_ascii_alphanumeric, Letter, Reading, Unknown, NoValue, LettersRead, cluster_of, read_from, Trouble}
use Rattle.std.specs.Prelude.{◌≡◌, ℕ, ◌+◌, ◌<◌, ◌≤◌, Bool, true, false, List, [], map, drop, length, Option, None, Some, option_map, slice_index_or}
use Rattle.el_options.specs.Reading.{Value, in_front}
use Rattle.el_options.specs.Reader.{cluster_read}
use Rattle.el_proc.specs.declared.trouble.Trouble.TheVariants.{Unknown as UnknownLetter, NoValue as NoValueOf}
use Rattle.el_getopt.specs.declared.fault.ParseFault.{ParseFault}
use Rattle.el_getopt.specs.declared.fault.ParseFault.TheVariants.{Refused, NoMemory}
use Rattle.el_getopt.specs.declared.reader.FoundLetter.{FoundLetter}
use Rattle.el_getopt.specs.declared.reader.Place.{Place}
use Rattle.el_getopt.specs.Optstring.{letters_in}
use Rattle.el_getopt.specs.Parsing.{args_read}

-- the value that stands at a place of the arguments, which the code numbers from 0
abbrev pub value_told : (args : List (List ℕ)) → Place → Value
value_told args place = record { word = place.word + 1; from = place.from; text = drop place.from (slice_index_or args place.word []) }

-- a letter, as the code tells of it
abbrev pub letter_told : (args : List (List ℕ)) → FoundLetter → Letter
letter_told args found = record { letter = found.letter; value = option_map (value_told args) found.value }

-- letters, as the code tells of them
abbrev pub letters_told : (args : List (List ℕ)) → List FoundLetter → List Letter
letters_told args found = map (letter_told args) found

-- each is an ASCII letter or a digit
abbrev pub are_letters : List FoundLetter → Bool
are_letters found = list_all (λ (one : FoundLetter). is_ascii_alphanumeric one.letter) found

-- what a reading is refused for
abbrev pub trouble_in : Reading → Option Trouble
trouble_in (Unknown letter) = Some (UnknownLetter letter)
trouble_in (NoValue letter) = Some (NoValueOf letter)
trouble_in (LettersRead letters used rest ended) = None

-- the fault is that of a reading, or want of memory
abbrev pub IsFaultOf : Reading → ParseFault → Type 0
IsFaultOf reading (Refused trouble) = trouble_in reading ≡ Some trouble
IsFaultOf reading NoMemory = Unit {0}

-- so many arguments are read, with these letters, and this letter wants the next one as its value
pub record IsAt (optstring : List ℕ) (args : List (List ℕ)) (wanted : Option ℕ) (found : List FoundLetter) (used : ℕ) : Type 0 where
  pub is_within : used ≤ length args
  pub is_reading : args_read optstring args ≡ in_front (letters_told args found) (read_from (letters_in optstring) (used + 1) wanted (drop used args))
  pub are_named : are_letters found ≡ true

-- the same inside a cluster, before this byte of the argument at this place
pub record IsInside (optstring : List ℕ) (args : List (List ℕ)) (at from : ℕ) (found : List FoundLetter) : Type 0 where
  pub is_within : at < length args
  pub is_reading : args_read optstring args ≡ in_front (letters_told args found)
      (cluster_read (cluster_of (letters_in optstring) (drop from (slice_index_or args at []))) (at + 1) from (λ wanted. read_from (letters_in optstring) (at + 1 + 1) wanted (drop (at + 1) args)))
  pub are_named : are_letters found ≡ true

-- the arguments are read as these letters, and so many of them were used
pub record IsRead (optstring : List ℕ) (args : List (List ℕ)) (found : List FoundLetter) (used : ℕ) : Type 0 where
  pub ended : Bool
  pub is_within : used ≤ length args
  pub is_reading : args_read optstring args ≡ LettersRead (letters_told args found) (used + 1) (drop used args) ended
  pub are_named : are_letters found ≡ true

-- reading goes on behind this many arguments, more than before, or has ended
abbrev pub IsStep : (optstring : List ℕ) → (args : List (List ℕ)) → (before : ℕ) → List FoundLetter → (used : ℕ) → (goes_on : Bool) → Type 0
IsStep optstring args before found used true = (before < used) × IsAt optstring args None found used
IsStep optstring args before found used false = IsRead optstring args found used

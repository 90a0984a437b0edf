-- Where the letters of a table were read. Only the code's contracts need it.
use Rattle.std.specs.Prelude.{◌≡◌, ℕ, Bool, true, ◌&&◌, not, ◌==◌, List, [], ◌∷◌, map, reverse, find, Option, Some, None}
use Rattle.std.specs.List.{enumerate_from, list_any}
use Rattle.el_options.specs.declared.table.Opt.{Opt}
use Rattle.el_options.specs.declared.read.Slot.{Slot}
use Rattle.el_options.specs.declared.read.Slot.TheVariants.{Absent, Flag, Value as ValueAt}
use Rattle.el_options.specs.declared.read.UsageFault.{UsageFault}
use Rattle.el_options.specs.declared.read.UsageFault.TheVariants.{Unknown as UnknownLetter, NoValue as NoValueOf}
use Rattle.el_options.specs.Reading.{Value, Letter, Reading, Unknown, NoValue, LettersRead}

-- ---- which tables may be read by

-- the letters differ, and none is `-` (45)
abbrev pub are_good_opts : List Opt → Bool
are_good_opts [] = true
are_good_opts (opt ∷ opts) = not (opt.letter == 45) && (not (list_any (λ other. other.letter == opt.letter) opts) && are_good_opts opts)

-- those of a program, where it reads options
abbrev pub are_good_letters : Option (List Opt) → Bool
are_good_letters None = true
are_good_letters (Some opts) = are_good_opts opts

-- ---- slots

-- the last occurrence of a letter, with its number; the letters read are numbered from 0
abbrev pub last_of : (letter : ℕ) → List Letter → Option (ℕ × Letter)
last_of letter letters = find (λ (numbered : ℕ × Letter). numbered.1.letter == letter) (reverse (enumerate_from 0 letters))

-- the slot of a letter with this number
abbrev pub slot_at : (nth : ℕ) → Option Value → Slot
slot_at nth None = Flag nth
slot_at nth (Some value) = ValueAt nth value.word value.from

-- the slot of a letter's last occurrence; without one it wasn't read
abbrev pub slot_by : Option (ℕ × Letter) → Slot
slot_by None = Absent
slot_by (Some numbered) = slot_at numbered.0 numbered.1.value

-- the slot of a letter
abbrev pub slot_of : (letter : ℕ) → List Letter → Slot
slot_of letter letters = slot_by (last_of letter letters)

-- the slots of a table's letters
abbrev pub slots_of : List Opt → List Letter → List Slot
slots_of opts letters = map (λ (opt : Opt). slot_of opt.letter letters) opts

-- ---- answers

-- the words read as letters, and these are their slots and how many words were read
pub record IsRead (opts : List Opt) (reading : Reading) (slots : List Slot) (used : ℕ) : Type 0 where
  pub letters : List Letter
  pub rest : List (List ℕ)
  pub ended : Bool
  pub is_reading : reading ≡ LettersRead letters used rest ended
  pub are_slots : slots ≡ slots_of opts letters

-- the reading that a fault tells of
abbrev pub faulty : UsageFault → Reading
faulty (UnknownLetter letter) = Unknown letter
faulty (NoValueOf letter) = NoValue letter

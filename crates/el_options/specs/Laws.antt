-- What holds of every reading of options.
use Rattle.std.specs.Prelude.{◌≡◌, ℕ, false, List, [], ◌∷◌, drop, Some, None, slice_get, IfSome}
use Rattle.std.specs.Prelude.{Bool}
use Rattle.el_options.specs.declared.table.Opt.{Opt}
use Rattle.el_options.specs.Reading.{Value, Letter, LettersRead, read_from, StopsAt}

-- the value of a letter stands in these words
pub record StandsIn (words : List (List ℕ)) (value : Value) : Type 0 where
  pub word : List ℕ
  pub is_there : slice_get words value.word ≡ Some word
  pub is_text : value.text ≡ drop value.from word

-- each value does
abbrev pub AllStand : (words : List (List ℕ)) → List Letter → Type 0
AllStand words [] = Unit {0}
AllStand words (letter ∷ letters) = IfSome letter.value (StandsIn words) × AllStand words letters

-- option words are one whole reading with nothing left, and before the words behind them it stops by rule: `--` was read, or the
-- next word is no option word
pub record IsWholeReading (opts : List Opt) (at : ℕ) (options : List (List ℕ)) (letters : List Letter) (used : ℕ) (ended : Bool) (behind : List (List ℕ)) : Type 0 where
  pub is_read : read_from opts at None options ≡ LettersRead letters used [] ended
  pub stops : ended ≡ false → StopsAt opts behind

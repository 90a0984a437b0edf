-- Laws on the reading.
use Rattle.std.specs.Prelude.{◌≡◌, ℕ, ◌≤◌, List, length, Option, Ok}
use Rattle.el_test.specs.Expressions.{Expression, written}
use Rattle.el_test.specs.Proper.{IsProper}
use Rattle.el_test.specs.Reading.{reading}
use Rattle.el_test.specs.Cases.{read_by_cases}

-- the words of a proper expression are read as it
abbrev pub ProperIsRead : Type 0
ProperIsRead = (expression : Option Expression) → IsProper expression → reading (written expression) ≡ Ok expression

-- what is read is proper, and its words are the words read
abbrev pub ReadIsProper : Type 0
ReadIsProper = (words : List (List ℕ)) (expression : Option Expression) → reading words ≡ Ok expression → IsProper expression × (written expression ≡ words)

-- no two proper expressions have the same words
abbrev pub WrittenIsInjective : Type 0
WrittenIsInjective = (one other : Option Expression) → IsProper one → IsProper other → written one ≡ written other → one ≡ other

-- the reading word by word and the reading by cases give the same expression, and the same fault at the same place
abbrev pub CasesAreTheReading : Type 0
CasesAreTheReading = (count : ℕ) (words : List (List ℕ)) → length words ≤ count → reading words ≡ read_by_cases count words

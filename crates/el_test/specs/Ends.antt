-- How eltest ends, and what it says of it.
use Rattle.std.specs.Prelude.{◌≡◌, ℕ, ◌≤◌, List, [], ◌∷◌, ◌++◌, Option, Err, MatchResult, codes}
use Rattle.std.specs.Fmt.{decimal}
use Rattle.el_test.specs.declared.asker.AskEvent.{AskEvent}
use Rattle.el_test.specs.declared.fault.TestKind.{TestKind}
use Rattle.el_test.specs.declared.fault.TestKind.TheVariants.{Incomplete, Unexpected, BadNumber, TooDeep}
use Rattle.el_test.specs.declared.fault.TestFault.{TestFault}
use Rattle.el_test.specs.declared.end.TestEnd.{TestEnd}
use Rattle.el_test.specs.declared.end.TestEnd.TheVariants.{True as TrueEnd, False as FalseEnd, Refused, Failed as FailedEnd, NoMemory}
use Rattle.el_test.specs.Asker.{Heard, extended, Rose, answers_found}
use Rattle.el_test.specs.Expressions.{Expression, written}
use Rattle.el_test.specs.Proper.{IsProper}
use Rattle.el_test.specs.Reading.{reading}
use Rattle.el_test.specs.Truth.{Verdict, True, False, Failed, truth}

-- the words are those of this proper expression
pub record Write (words : List (List ℕ)) (expression : Option Expression) : Type 0 where
  pub proper : IsProper expression
  pub words_of : written expression ≡ words

-- the words are a proper expression's; what was asked is what its truth asks on the answers found, no more and no less,
-- and it comes out so
pub record Evaluates (dir : List ℕ) (words : List (List ℕ)) (old new : Heard) (verdict : Verdict) : Type 0 where
  pub expression : Option Expression
  pub read : Write words expression
  pub asks : List AskEvent
  pub log : new.log ≡ extended old.log asks
  pub later : old.faults ≤ new.faults
  pub told : truth expression dir (answers_found asks) ≡ record { asks = asks; left = []; verdict = verdict }

-- the words are no proper expression's; the fault is that of the reading, and nothing was asked
pub record Refuses (words : List (List ℕ)) (old new : Heard) (fault : TestFault) : Type 0 where
  pub found : reading words ≡ Err fault
  pub improper : (expression : Option Expression) → Write words expression → ⊥
  pub unasked : new ≡ old

-- there was no memory to go on; what was asked is what the truth asks on the answers found, and nothing where the words are no
-- proper expression's
pub record Breaks (dir : List ℕ) (words : List (List ℕ)) (old new : Heard) : Type 0 where
  pub asks : List AskEvent
  pub log : new.log ≡ extended old.log asks
  pub later : old.faults ≤ new.faults
  pub begun : MatchResult (reading words) (λ expression. (truth expression dir (answers_found asks)).asks ≡ asks) (λ fault. asks ≡ [])

-- an end of eltest for these words, with what its asker shows before and after
abbrev pub Ends : TestEnd → (dir : List ℕ) → (words : List (List ℕ)) → (old new : Heard) → Type 0
Ends TrueEnd dir words old new = Evaluates dir words old new True
Ends FalseEnd dir words old new = Evaluates dir words old new False
Ends (Refused fault) dir words old new = Refuses words old new fault
Ends FailedEnd dir words old new = Evaluates dir words old new Failed × Rose old.faults new.faults
Ends NoMemory dir words old new = Breaks dir words old new

-- the status of the process
abbrev pub status_of : TestEnd → ℕ
status_of TrueEnd = 0
status_of FalseEnd = 1
status_of (Refused fault) = 100
status_of FailedEnd = 111
status_of NoMemory = 110

-- a kind of fault by its name
unfoldable pub kind_text : TestKind → List ℕ
kind_text Incomplete = codes "Incomplete"
kind_text Unexpected = codes "Unexpected"
kind_text BadNumber = codes "BadNumber"
kind_text TooDeep = codes "TooDeep"

-- the line for words that are refused: `eltest: KIND at N`
unfoldable pub fault_text : TestFault → List ℕ
fault_text fault = codes "eltest: " ++ kind_text fault.kind ++ codes " at " ++ decimal fault.at ++ 10 ∷ []

-- the line for an ask that failed
unfoldable pub failed_text : List ℕ
failed_text = codes "eltest: system call failed\n"

-- what standard error is told: a line, or no bytes
unfoldable pub message_of : TestEnd → List ℕ
message_of (Refused fault) = fault_text fault
message_of FailedEnd = failed_text
message_of TrueEnd = []
message_of FalseEnd = []
message_of NoMemory = []

-- An asker that answers from a list.
use Rattle.std.specs.Prelude.{◌≡◌, ℕ, ◌+◌, ◌-◌, ◌^◌, List, [], ◌∷◌, ◌++◌, drop, Bool, true, false, ◌&&◌, nat_lt, if◌then◌else◌, Option, None, Some, Result, Ok, Err, is_err}
use Rattle.el_test.specs.declared.operators.Question.{Question}
use Rattle.el_test.specs.declared.asker.AskEvent.{AskEvent}
use Rattle.el_test.specs.declared.asker.AskFault.{AskFault}
use Rattle.el_test.specs.declared.asker.AskFault.TheVariants.{Failed}
use Rattle.el_test.specs.declared.ask_answers.AskAnswer.{AskAnswer}
use Rattle.el_test.specs.declared.ask_answers.AskAnswer.TheVariants.{Yes, No, Fault}
use Rattle.el_test.specs.Asker.{Heard, event_of}

-- what a scripted asker is seen as: the asks so far, the answers left, and its faults
pub record AskScript : Type 0 where
  pub log : List AskEvent
  pub answers : List AskAnswer
  pub faults : ℕ

-- it tells its log
abbrev pub heard_of : AskScript → Heard
heard_of script = record { log = Some script.log; faults = script.faults }

-- a new one
abbrev pub started : List AskAnswer → AskScript
started answers = record { log = []; answers = answers; faults = 0 }

-- the answer that the next ask takes; after the list each is `No`
abbrev pub due : List AskAnswer → AskAnswer
due [] = No
due (answer ∷ answers) = answer

-- an answer, or `No`
abbrev pub or_no : Option AskAnswer → AskAnswer
or_no None = No
or_no (Some answer) = answer

-- what an ask is answered
abbrev pub reply_of : AskAnswer → Result Bool AskFault
reply_of Yes = Ok true
reply_of No = Ok false
reply_of Fault = Err Failed

-- a count of faults stands still at the last value of a counter
abbrev pub counted : Bool → ℕ → ℕ
counted failed faults = if failed && nat_lt faults (2 ^ 64 - 1) then faults + 1 else faults

-- one more ask, one answer less, and one more fault where the ask failed
abbrev pub noted : AskScript → AskEvent → Bool → AskScript
noted old event failed = record { log = old.log ++ event ∷ []; answers = drop 1 old.answers; faults = counted failed old.faults }

-- the asker behind an ask
abbrev pub after_ask : AskScript → (dir path : List ℕ) → Question → Result Bool AskFault → AskScript
after_ask old dir path question answer = noted old (event_of dir path question answer) (is_err answer)

-- an ask was answered so and left this
pub record Replied (answer expected : Result Bool AskFault) (new after : AskScript) : Type 0 where
  pub reply : answer ≡ expected
  pub state : new ≡ after

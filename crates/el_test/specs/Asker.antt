-- What an asker shows of its asks, and what they found.
use Rattle.std.specs.Prelude.{ℕ, ◌+◌, ◌-◌, ◌^◌, ◌≤◌, min, Bool, true, false, List, [], ◌∷◌, ◌++◌, Option, None, Some, Result, Ok, Err, IsErrOf}
use Rattle.el_test.specs.declared.operators.Question.{Question}
use Rattle.el_test.specs.declared.asker.AskEvent.{AskEvent}
use Rattle.el_test.specs.declared.ask_answers.AskAnswer.{AskAnswer}
use Rattle.el_test.specs.declared.ask_answers.AskAnswer.TheVariants.{Yes, No, Fault as Faulty}
use Rattle.el_test.specs.declared.asker.AskFault.{AskFault}
use Rattle.el_test.specs.declared.asker.AskFault.TheVariants.{Failed, NoMemory}

-- an asker as its callers see it: the events so far, where it tells them, and how many asks have failed
pub record Heard : Type 0 where
  pub log : Option (List AskEvent)
  pub faults : ℕ

-- a log with these events behind, where it is told
unfoldable pub extended : Option (List AskEvent) → List AskEvent → Option (List AskEvent)
extended None added = None
extended (Some events) added = Some (events ++ added)

-- an ask as an event
abbrev pub event_of : (dir path : List ℕ) → Question → Result Bool AskFault → AskEvent
event_of dir path question answer = record { dir = dir; path = path; question = question; answer = answer }

-- the event of an ask; one that had no memory has none
unfoldable pub ask_told : (dir path : List ℕ) → Question → Result Bool AskFault → List AskEvent
ask_told dir path question (Ok value) = event_of dir path question (Ok value) ∷ []
ask_told dir path question (Err Failed) = event_of dir path question (Err Failed) ∷ []
ask_told dir path question (Err NoMemory) = []

-- a count rose, or stands at the last value of a counter
abbrev pub Rose : ℕ → ℕ → Type 0
Rose before now = min (before + 1) (2 ^ 64 - 1) ≤ now

-- the count never falls, and this error comes only where it rose
pub record HasCause {T E : Type 0} (before now : ℕ) (answer : Result T E) (error : E) : Type 0 where
  pub later : before ≤ now
  pub risen : IsErrOf answer error → Rose before now

-- the answer that an event found; no event has an answer for want of memory
abbrev pub answer_in : Result Bool AskFault → AskAnswer
answer_in (Ok true) = Yes
answer_in (Ok false) = No
answer_in (Err fault) = Faulty

-- the answers of all events
abbrev pub answers_found : List AskEvent → List AskAnswer
answers_found [] = []
answers_found (event ∷ events) = answer_in event.answer ∷ answers_found events

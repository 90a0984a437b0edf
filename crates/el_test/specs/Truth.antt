-- Whether an expression is true, and what is asked for it.
use Rattle.std.specs.Prelude.{ℕ, Bool, true, false, not, List, [], ◌∷◌, ◌++◌, Option, None, Some, Ok, Err}
use Rattle.el_test.specs.declared.operators.Question.{Question}
use Rattle.el_test.specs.declared.operators.Unary.{Unary}
use Rattle.el_test.specs.declared.operators.Unary.TheVariants.{Filled, Blank, Asked}
use Rattle.el_test.specs.declared.asker.AskEvent.{AskEvent}
use Rattle.el_test.specs.declared.ask_answers.AskAnswer.{AskAnswer}
use Rattle.el_test.specs.declared.ask_answers.AskAnswer.TheVariants.{Yes, No, Fault}
use Rattle.el_test.specs.declared.asker.AskFault.TheVariants.{Failed as AskFailed}
use Rattle.el_test.specs.Operators.{holds}
use Rattle.el_test.specs.Expressions.{Test, compared, applied, negated, grouped, Conjunction, only, both, Expression, alone, either}

-- what an expression is; Starved: an ask was due and no answer left
pub data Verdict : Type 0 where
  True False Failed Starved : Verdict

-- the asks made, with the answers found; the answers left; and the verdict
pub record Answered : Type 0 where
  pub asks : List AskEvent
  pub left : List AskAnswer
  pub verdict : Verdict

-- without an ask
abbrev pub verdict_of : Bool → Verdict
verdict_of true = True
verdict_of false = False

-- behind a `!`
abbrev pub flipped : Verdict → Verdict
flipped True = False
flipped False = True
flipped Failed = Failed
flipped Starved = Starved

-- known without an ask
abbrev pub known : Bool → List AskAnswer → Answered
known truth answers = record { asks = []; left = answers; verdict = verdict_of truth }

-- an ask takes the next answer
abbrev pub asked : (dir : List ℕ) → Question → (path : List ℕ) → List AskAnswer → Answered
asked dir question path [] = record { asks = []; left = []; verdict = Starved }
asked dir question path (Yes ∷ answers) = record { asks = record { dir = dir; path = path; question = question; answer = Ok true } ∷ []; left = answers; verdict = True }
asked dir question path (No ∷ answers) = record { asks = record { dir = dir; path = path; question = question; answer = Ok false } ∷ []; left = answers; verdict = False }
asked dir question path (Fault ∷ answers) = record { asks = record { dir = dir; path = path; question = question; answer = Err AskFailed } ∷ []; left = answers; verdict = Failed }

-- the word isn't empty
abbrev pub has_bytes : List ℕ → Bool
has_bytes [] = false
has_bytes (byte ∷ bytes) = true

-- an operator on one word
abbrev pub truth_applied : (dir : List ℕ) → Unary → (text : List ℕ) → List AskAnswer → Answered
truth_applied dir Filled text answers = known (has_bytes text) answers
truth_applied dir Blank text answers = known (not (has_bytes text)) answers
truth_applied dir (Asked question) text answers = asked dir question text answers

-- a negated test
abbrev pub negative : Answered → Answered
negative a = record a { verdict = flipped a.verdict }

-- one answered behind another
abbrev pub joined : Answered → Answered → Answered
joined a b = record { asks = a.asks ++ b.asks; left = b.left; verdict = b.verdict }

-- `-a` goes on only where it is true so far
abbrev pub and_then : Verdict → Answered → (List AskAnswer → Answered) → Answered
and_then True a more = joined a (more a.left)
and_then verdict a more = a

-- `-o` goes on only where it is false so far
abbrev pub or_else : Verdict → Answered → (List AskAnswer → Answered) → Answered
or_else False a more = joined a (more a.left)
or_else verdict a more = a

-- on these answers, with paths taken from `dir`
abbrev mutual
  pub truth_test : Test → (dir : List ℕ) → List AskAnswer → Answered
  truth_test (compared left operator right) dir answers = known (holds operator left right) answers
  truth_test (applied operator text) dir answers = truth_applied dir operator text answers
  truth_test (negated test) dir answers = negative (truth_test test dir answers)
  truth_test (grouped expression) dir answers = truth_in expression dir answers

  pub truth_all : Conjunction → (dir : List ℕ) → List AskAnswer → Answered
  truth_all (only test) dir answers = truth_test test dir answers
  truth_all (both test rest) dir answers = and_then (truth_test test dir answers).verdict (truth_test test dir answers) (λ left. truth_all rest dir left)

  pub truth_in : Expression → (dir : List ℕ) → List AskAnswer → Answered
  truth_in (alone conjunction) dir answers = truth_all conjunction dir answers
  truth_in (either conjunction rest) dir answers = or_else (truth_all conjunction dir answers).verdict (truth_all conjunction dir answers) (λ left. truth_in rest dir left)

-- the truth of an expression; no words are false
abbrev pub truth : Option Expression → (dir : List ℕ) → List AskAnswer → Answered
truth None dir answers = known false answers
truth (Some expression) dir answers = truth_in expression dir answers

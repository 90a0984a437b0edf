-- Worked rows: what words come to on a list of answers.
use Rattle.std.specs.Prelude.{◌≡◌, ℕ, Bool, true, false, List, [], ◌∷◌, Option, Result, Ok, Err, codes}
use Rattle.el_test.specs.declared.operators.Question.{Question}
use Rattle.el_test.specs.declared.operators.Question.TheVariants.{Exists, File}
use Rattle.el_test.specs.declared.fault.TestKind.{TestKind}
use Rattle.el_test.specs.declared.fault.TestKind.TheVariants.{Incomplete, Unexpected, BadNumber}
use Rattle.el_test.specs.declared.fault.TestFault.{TestFault}
use Rattle.el_test.specs.declared.asker.AskEvent.{AskEvent}
use Rattle.el_test.specs.declared.asker.AskFault.{AskFault}
use Rattle.el_test.specs.declared.asker.AskFault.TheVariants.{Failed as AskFailed}
use Rattle.el_test.specs.declared.ask_answers.AskAnswer.{AskAnswer}
use Rattle.el_test.specs.declared.ask_answers.AskAnswer.TheVariants.{Yes, No, Fault}
use Rattle.el_test.specs.Expressions.{Expression}
use Rattle.el_test.specs.Reading.{reading}
use Rattle.el_test.specs.Truth.{Answered, truth, Verdict, True, False, Failed, Starved}

-- a fault and its place
abbrev pub refused : TestKind → ℕ → Result Answered TestFault
refused kind at = Err (record { kind = kind; at = at })

-- an ask of a path, from the root
abbrev pub event : Question → (path : List ℕ) → Result Bool AskFault → AskEvent
event question path answer = record { dir = codes "/"; path = path; question = question; answer = answer }

-- the asks made, the answers left, and the verdict
abbrev pub ended : List AskEvent → List AskAnswer → Verdict → Answered
ended asks left verdict = record { asks = asks; left = left; verdict = verdict }

-- the truth of what was read, or the fault
abbrev pub asked_of : List AskAnswer → Result (Option Expression) TestFault → Result Answered TestFault
asked_of answers (Ok expression) = Ok (truth expression (codes "/") answers)
asked_of answers (Err fault) = Err fault

-- what the words come to on these answers
abbrev pub run : List (List ℕ) → List AskAnswer → Result Answered TestFault
run words answers = asked_of answers (reading words)

pub record WorkedRows : Type 0 where
  pub first_operand_is_no_number : run (codes "a" ∷ codes "-eq" ∷ codes "1" ∷ []) [] ≡ refused BadNumber 0
  pub a_word_too_many : run (codes "a" ∷ codes "b" ∷ []) [] ≡ refused Unexpected 1
  pub open_group : run (codes "(" ∷ codes "a" ∷ codes "=" ∷ codes "a" ∷ []) [] ≡ refused Incomplete 4
  pub stray_close : run (codes "a" ∷ codes "=" ∷ codes "a" ∷ codes ")" ∷ []) [] ≡ refused Unexpected 3
  pub second_operand_is_no_number : run (codes "1" ∷ codes "-eq" ∷ codes "b" ∷ []) [] ≡ refused BadNumber 2
  pub comparison_before_a_unary_operator : run (codes "-n" ∷ codes "=" ∷ codes "-a" ∷ codes "x" ∷ codes "=" ∷ codes "y" ∷ []) [] ≡ refused Unexpected 3
  pub comparison_in_an_open_group : run (codes "(" ∷ codes "-n" ∷ codes "=" ∷ codes ")" ∷ []) [] ≡ refused Incomplete 4
  pub lone_word : run (codes "a" ∷ []) [] ≡ refused Incomplete 1
  pub comparison_without_its_end : run (codes "a" ∷ codes "=" ∷ []) [] ≡ refused Incomplete 2
  pub three_plain_words : run (codes "a" ∷ codes "b" ∷ codes "c" ∷ []) [] ≡ refused Unexpected 1
  pub unary_operator_alone : run (codes "-e" ∷ []) [] ≡ refused Incomplete 1
  pub joiner_at_the_end : run (codes "a" ∷ codes "=" ∷ codes "b" ∷ codes "-a" ∷ []) [] ≡ refused Incomplete 4
  pub empty_group : run (codes "(" ∷ codes ")" ∷ []) [] ≡ refused Incomplete 2
  pub not_alone : run (codes "!" ∷ []) [] ≡ refused Incomplete 1
  pub unary_operators : run (codes "-n" ∷ codes "a" ∷ codes "-a" ∷ codes "!" ∷ codes "-z" ∷ codes "b" ∷ []) ([]) ≡ Ok (ended ([]) ([]) True)
  pub numbers : run (codes "3" ∷ codes "-lt" ∷ codes "20" ∷ []) ([]) ≡ Ok (ended ([]) ([]) True)
  pub bytes : run (codes "3" ∷ codes "<" ∷ codes "20" ∷ []) ([]) ≡ Ok (ended ([]) ([]) False)
  pub group_and_more : run (codes "(" ∷ codes "a" ∷ codes "=" ∷ codes "b" ∷ codes "-o" ∷ codes "-n" ∷ codes "c" ∷ codes ")" ∷ codes "-a" ∷ codes "x" ∷ codes "!=" ∷ codes "x" ∷ []) ([]) ≡ Ok (ended ([]) ([]) False)
  pub or_stops : run (codes "-e" ∷ codes "x" ∷ codes "-o" ∷ codes "-f" ∷ codes "y" ∷ []) (Yes ∷ []) ≡ Ok (ended (event Exists (codes "x") (Ok true) ∷ []) ([]) True)
  pub ask_fails : run (codes "-e" ∷ codes "x" ∷ codes "-o" ∷ codes "-f" ∷ codes "y" ∷ []) (No ∷ Fault ∷ []) ≡ Ok (ended (event Exists (codes "x") (Ok false) ∷ event File (codes "y") (Err AskFailed) ∷ []) ([]) Failed)
  pub answers_run_out : run (codes "-e" ∷ codes "x" ∷ codes "-o" ∷ codes "-f" ∷ codes "y" ∷ []) (No ∷ []) ≡ Ok (ended (event Exists (codes "x") (Ok false) ∷ []) ([]) Starved)
  pub no_words : run ([]) ([]) ≡ Ok (ended ([]) ([]) False)
  pub not_is_compared : run (codes "!" ∷ codes "=" ∷ codes "x" ∷ []) ([]) ≡ Ok (ended ([]) ([]) False)
  pub two_negations : run (codes "!" ∷ codes "!" ∷ codes "-z" ∷ codes "b" ∷ []) ([]) ≡ Ok (ended ([]) ([]) False)
  pub group_negated : run (codes "!" ∷ codes "(" ∷ codes "a" ∷ codes "=" ∷ codes "b" ∷ codes "-o" ∷ codes "c" ∷ codes "=" ∷ codes "d" ∷ codes ")" ∷ codes "-a" ∷ codes "-n" ∷ codes "!" ∷ codes "-o" ∷ codes "x" ∷ codes "=" ∷ codes "y" ∷ []) ([]) ≡ Ok (ended ([]) ([]) True)
  pub and_before_or : run (codes "a" ∷ codes "=" ∷ codes "a" ∷ codes "-o" ∷ codes "b" ∷ codes "=" ∷ codes "c" ∷ codes "-a" ∷ codes "d" ∷ codes "=" ∷ codes "e" ∷ []) ([]) ≡ Ok (ended ([]) ([]) True)

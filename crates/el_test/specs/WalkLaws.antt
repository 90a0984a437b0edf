-- What a walk says of the reading and of the truth. Only the code's contracts need it.
use Rattle.std.specs.Prelude.{◌≡◌, ℕ, List, [], Result, Ok, Err}
use Rattle.el_test.specs.declared.walking.Stop.{Stop}
use Rattle.el_test.specs.declared.walking.Standing.TheVariants.{Open as Undecided, Settled}
use Rattle.el_test.specs.declared.ask_answers.AskAnswer.{AskAnswer}
use Rattle.el_test.specs.Expressions.{Expression, written_in}
use Rattle.el_test.specs.Proper.{IsProperIn}
use Rattle.el_test.specs.Reading.{read_on, Due, outermost}
use Rattle.el_test.specs.Truth.{Verdict, True, truth_in}
use Rattle.el_test.specs.Walking.{walk, fresh}

-- what the reading came to
abbrev pub read_end : Result Expression Stop → Result Verdict Stop
read_end (Ok expression) = Ok True
read_end (Err stopped) = Err stopped

-- a walk in which nothing is decided finds the reading's faults, and asks nothing
abbrev pub SettledReads : Type 0
SettledReads = (dir : List ℕ) (words : List (List ℕ)) (answers : List AskAnswer)
    → walk dir words (fresh Settled) answers ≡ record { asks = []; left = answers; end = read_end (read_on words (Due 255 outermost)) }

-- a walk along the words of a proper expression asks what its truth asks, and ends so
abbrev pub OpenTells : Type 0
OpenTells = (dir : List ℕ) (expression : Expression) (answers : List AskAnswer) → IsProperIn 255 expression []
    → walk dir (written_in expression) (fresh Undecided) answers
    ≡ record { asks = (truth_in expression dir answers).asks; left = (truth_in expression dir answers).left; end = Ok (truth_in expression dir answers).verdict }

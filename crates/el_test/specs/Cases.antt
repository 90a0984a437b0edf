-- The reading of words as a rule that calls itself: a test reads what stands within it, and the words after it are read next.
--
-- A reading calls itself at most `count` times, one call within the other. The number of words is always enough, since each call
-- begins at a later word.
use Rattle.std.specs.Prelude.{ℕ, zero, suc, Bool, true, false, List, [], ◌∷◌, length, Option, None, Some, is_some, Result, Ok, Err}
use Rattle.el_words.specs.Number.{number_of}
use Rattle.el_test.specs.declared.operators.Unary.{Unary}
use Rattle.el_test.specs.declared.operators.Prefix.{Prefix}
use Rattle.el_test.specs.declared.operators.Prefix.TheVariants.{Not, Open, On}
use Rattle.el_test.specs.declared.operators.Joiner.{Joiner}
use Rattle.el_test.specs.declared.operators.Joiner.TheVariants.{And, Or, Close}
use Rattle.el_test.specs.declared.fault.TestKind.TheVariants.{Incomplete, Unexpected, TooDeep}
use Rattle.el_test.specs.declared.fault.TestFault.{TestFault}
use Rattle.el_test.specs.declared.walking.Stop.{Stop}
use Rattle.el_test.specs.Operators.{binary_named, prefix_named, joiner_named, is_numeric}
use Rattle.el_test.specs.Expressions.{Test, compared, applied, negated, grouped, Conjunction, only, both, Expression, alone, either}
use Rattle.el_test.specs.Proper.{Comparing, comparing}
use Rattle.el_test.specs.Reading.{stop, numbers_checked, placed}

-- what was read, and the words after it
pub record Got (T : Type 0) : Type 0 where
  pub value : T
  pub rest : List (List ℕ)

abbrev pub got : {T : Type 0} → T → (rest : List (List ℕ)) → Got T
got value rest = record { value = value; rest = rest }

-- what was read is a part of something larger; a fault stays as it is
abbrev pub as_part : {T U : Type 0} → (T → U) → Result (Got T) Stop → Result (Got U) Stop
as_part larger (Ok g) = Ok (got (larger g.value) g.rest)
as_part larger (Err stopped) = Err stopped

-- ---- one test

-- A comparison. On numbers both operands are numbers, or the first that is none is BadNumber.
abbrev pub comparison : (first : List ℕ) → (rest : List (List ℕ)) → Comparing → Result (Got Test) Stop
comparison first rest c =
    numbers_checked (is_numeric c.operator) (is_some (number_of first)) (is_some (number_of c.right)) (suc (length rest)) (suc (length c.behind))
    (got (compared first c.operator c.right) c.behind)

-- Within a `!` or a `(` another test or expression is read, unless this one is the 256th: then it is TooDeep.
abbrev pub within : (room left : ℕ) → (read : ℕ → Result (Got Test) Stop) → Result (Got Test) Stop
within zero left read = stop TooDeep left
within (suc room) left read = read room

-- After the expression in a group stands `)`. At the end of the words the group is Incomplete; another word is Unexpected.
abbrev pub closed_at : Option Joiner → Expression → (rest : List (List ℕ)) → Result (Got Test) Stop
closed_at (Some Close) expression rest = Ok (got (grouped expression) rest)
closed_at _ expression rest = stop Unexpected (suc (length rest))

abbrev pub closed_before : Expression → (rest : List (List ℕ)) → Result (Got Test) Stop
closed_before expression [] = stop Incomplete 0
closed_before expression (word ∷ rest) = closed_at (joiner_named word) expression rest

abbrev pub in_group : Result (Got Expression) Stop → Result (Got Test) Stop
in_group (Ok g) = closed_before g.value g.rest
in_group (Err stopped) = Err stopped

-- A unary operator takes the next word. With no next word it is Incomplete.
abbrev pub question : Unary → (rest : List (List ℕ)) → Result (Got Test) Stop
question operator [] = stop Incomplete 0
question operator (text ∷ rest) = Ok (got (applied operator text) rest)

-- No test begins here. With no word more, or with a binary operator as the only word more, it is Incomplete.
-- Otherwise the next word is Unexpected.
abbrev pub incomplete_if : Bool → Result (Got Test) Stop
incomplete_if true = stop Incomplete 0
incomplete_if false = stop Unexpected 1

abbrev pub no_test : (rest : List (List ℕ)) → Result (Got Test) Stop
no_test [] = stop Incomplete 0
no_test (second ∷ []) = incomplete_if (is_some (binary_named second))
no_test (second ∷ third ∷ rest) = stop Unexpected (length (second ∷ third ∷ rest))

-- The cases of a test that begins with this word, in their order: a comparison; a `!`; a `(`; a unary operator; no test.
abbrev pub by_case : Option Comparing → Option Prefix → (first : List ℕ) → (rest : List (List ℕ)) → (room : ℕ)
    → (test : ℕ → Result (Got Test) Stop) → (expression : ℕ → Result (Got Expression) Stop) → Result (Got Test) Stop
by_case (Some c) prefix first rest room test expression = comparison first rest c
by_case None (Some Not) first rest room test expression = within room (suc (length rest)) (λ less. as_part negated (test less))
by_case None (Some Open) first rest room test expression = within room (suc (length rest)) (λ less. in_group (expression less))
by_case None (Some (On operator)) first rest room test expression = question operator rest
by_case None None first rest room test expression = no_test rest

-- ---- tests joined by `-a`, and what is joined by `-o`

-- After a test stands `-a` and more, or the conjunction ends.
abbrev pub and_at : Option Joiner → Test → (word : List ℕ) → (rest : List (List ℕ)) → (more : List (List ℕ) → Result (Got Conjunction) Stop) → Result (Got Conjunction) Stop
and_at (Some And) test word rest more = as_part (both test) (more rest)
and_at _ test word rest more = Ok (got (only test) (word ∷ rest))

abbrev pub and_before : Test → (rest : List (List ℕ)) → (more : List (List ℕ) → Result (Got Conjunction) Stop) → Result (Got Conjunction) Stop
and_before test [] more = Ok (got (only test) [])
and_before test (word ∷ rest) more = and_at (joiner_named word) test word rest more

abbrev pub and_after : Result (Got Test) Stop → (more : List (List ℕ) → Result (Got Conjunction) Stop) → Result (Got Conjunction) Stop
and_after (Ok g) more = and_before g.value g.rest more
and_after (Err stopped) more = Err stopped

-- One or more tests joined by `-a`.
unfoldable pub conjunction_read : (test : List (List ℕ) → Result (Got Test) Stop) → (count : ℕ) → List (List ℕ) → Result (Got Conjunction) Stop
conjunction_read test zero words = stop Incomplete 0
conjunction_read test (suc count) words = and_after (test words) (λ rest. conjunction_read test count rest)

-- After a conjunction stands `-o` and more, or the expression ends.
abbrev pub or_at : Option Joiner → Conjunction → (word : List ℕ) → (rest : List (List ℕ)) → (more : List (List ℕ) → Result (Got Expression) Stop) → Result (Got Expression) Stop
or_at (Some Or) conjunction word rest more = as_part (either conjunction) (more rest)
or_at _ conjunction word rest more = Ok (got (alone conjunction) (word ∷ rest))

abbrev pub or_before : Conjunction → (rest : List (List ℕ)) → (more : List (List ℕ) → Result (Got Expression) Stop) → Result (Got Expression) Stop
or_before conjunction [] more = Ok (got (alone conjunction) [])
or_before conjunction (word ∷ rest) more = or_at (joiner_named word) conjunction word rest more

abbrev pub or_after : Result (Got Conjunction) Stop → (more : List (List ℕ) → Result (Got Expression) Stop) → Result (Got Expression) Stop
or_after (Ok g) more = or_before g.value g.rest more
or_after (Err stopped) more = Err stopped

-- One or more conjunctions joined by `-o`.
unfoldable pub expression_read : (test : List (List ℕ) → Result (Got Test) Stop) → (count : ℕ) → List (List ℕ) → Result (Got Expression) Stop
expression_read test zero words = stop Incomplete 0
expression_read test (suc count) words = or_after (conjunction_read test (suc count) words) (λ rest. expression_read test count rest)

-- ---- the reading

-- One test, with room for so many `!` and `(`. With no word left it is Incomplete.
unfoldable pub test_read : (count room : ℕ) → List (List ℕ) → Result (Got Test) Stop
test_read zero room words = stop Incomplete 0
test_read (suc count) room [] = stop Incomplete 0
test_read (suc count) room (first ∷ rest) =
    by_case (comparing rest) (prefix_named first) first rest room (λ less. test_read count less rest) (λ less. expression_read (λ words. test_read count less words) count rest)

-- A word that is left over is Unexpected.
abbrev pub all_of : Expression → (rest : List (List ℕ)) → Result Expression Stop
all_of expression [] = Ok expression
all_of expression (word ∷ rest) = stop Unexpected (suc (length rest))

abbrev pub nothing_after : Result (Got Expression) Stop → Result Expression Stop
nothing_after (Ok g) = all_of g.value g.rest
nothing_after (Err stopped) = Err stopped

-- The expression that the words are, or their fault at its place. No words at all are the expression that is false.
unfoldable pub read_by_cases : (count : ℕ) → List (List ℕ) → Result (Option Expression) TestFault
read_by_cases count [] = Ok None
read_by_cases count (word ∷ rest) = placed (length (word ∷ rest)) (nothing_after (expression_read (λ words. test_read count 255 words) count (word ∷ rest)))

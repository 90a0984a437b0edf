-- The reading by cases is the reading.
use Rattle.std.proofs.Common.{◌≡◌, ℕ, zero, suc, ◌≤◌, Bool, true, false, List, [], ◌∷◌, length, Option, None, Some, Result, Ok, Err, refl, ap, ◌∙◌, is_some, IfOk, arith}
use Rattle.el_words.specs.Number.{number_of}
use Rattle.el_test.specs.declared.operators.Unary.{Unary}
use Rattle.el_test.specs.declared.operators.Binary.{Binary}
use Rattle.el_test.specs.declared.operators.Prefix.{Prefix}
use Rattle.el_test.specs.declared.operators.Prefix.TheVariants.{Not, Open, On}
use Rattle.el_test.specs.declared.operators.Joiner.{Joiner}
use Rattle.el_test.specs.declared.operators.Joiner.TheVariants.{And, Or, Close}
use Rattle.el_test.specs.declared.fault.TestKind.TheVariants.{Incomplete}
use Rattle.el_test.specs.declared.walking.Stop.{Stop}
use Rattle.el_test.specs.Operators.{binary_named, prefix_named, joiner_named, is_numeric}
use Rattle.el_test.specs.Expressions.{Test, compared, negated, grouped, Conjunction, both, Expression, either}
use Rattle.el_test.specs.Proper.{comparing, comparing_by}
use Rattle.el_test.specs.Reading.{Frames, outermost, negation, group, behind_and, behind_or, State, Due, Past, stop, numbers_checked, ended_if, by_comparing, by_prefix, after_or, step, astray, applied_to, go_on, read_on, placed, reading}
use Rattle.el_test.specs.Cases.{Got, got, as_part, closed_at, closed_before, in_group, question, incomplete_if, no_test, by_case, and_at, and_before, and_after, conjunction_read, or_at, or_before, or_after, expression_read, test_read, all_of, nothing_after, read_by_cases}
use Rattle.el_test.specs.Laws.{CasesAreTheReading}
use Rattle.el_test.proofs.Framed.{IsLevel, IsOuter, outer_is_level}
use Rattle.el_test.proofs.After.{read_step, at_end, all_finished, negation_over, after_all, after_in, joined_by, or_behind, close_in, end_in, stray_in}

abbrev Words : Type 0
Words = List (List ℕ)

-- ---- the words after what was read are no more than before

abbrev Shorter : {T : Type 0} → Words → Result (Got T) Stop → Type 0
Shorter words answer = IfOk answer (λ g. length g.rest ≤ length words)

part_shorter : {T U : Type 0} (larger : T → U) (words more : Words) (answer : Result (Got T) Stop) → length words ≤ length more → Shorter words answer → Shorter more (as_part larger answer)
part_shorter larger words more (Ok g) le s = omega arith
part_shorter larger words more (Err stopped) le s = tt

and_shorter : (words : Words) (answer : Result (Got Test) Stop) (more : Words → Result (Got Conjunction) Stop) → ((rest : Words) → Shorter rest (more rest))
    → Shorter words answer → Shorter words (and_after answer more)
and_shorter words (Err stopped) more h s = tt
and_shorter words (Ok g) more h s = at g.rest s
  where
    at : (rest : Words) → length rest ≤ length words → Shorter words (and_before g.value rest more)
    at [] le = le
    at (word ∷ rest) le = by (joiner_named word)
      where
        by : (joiner : Option Joiner) → Shorter words (and_at joiner g.value word rest more)
        by None = le
        by (Some And) = part_shorter (both g.value) rest words (more rest) (omega arith) (h rest)
        by (Some Or) = le
        by (Some Close) = le

conjunction_shorter : (test : Words → Result (Got Test) Stop) → ((words : Words) → Shorter words (test words)) → (count : ℕ) (words : Words) → Shorter words (conjunction_read test count words)
unfolding conjunction_read
conjunction_shorter test h zero words = tt
conjunction_shorter test h (suc count) words = and_shorter words (test words) (λ rest. conjunction_read test count rest) (λ rest. conjunction_shorter test h count rest) (h words)

or_shorter : (words : Words) (answer : Result (Got Conjunction) Stop) (more : Words → Result (Got Expression) Stop) → ((rest : Words) → Shorter rest (more rest))
    → Shorter words answer → Shorter words (or_after answer more)
or_shorter words (Err stopped) more h s = tt
or_shorter words (Ok g) more h s = at g.rest s
  where
    at : (rest : Words) → length rest ≤ length words → Shorter words (or_before g.value rest more)
    at [] le = le
    at (word ∷ rest) le = by (joiner_named word)
      where
        by : (joiner : Option Joiner) → Shorter words (or_at joiner g.value word rest more)
        by None = le
        by (Some And) = le
        by (Some Or) = part_shorter (either g.value) rest words (more rest) (omega arith) (h rest)
        by (Some Close) = le

expression_shorter : (test : Words → Result (Got Test) Stop) → ((words : Words) → Shorter words (test words)) → (count : ℕ) (words : Words) → Shorter words (expression_read test count words)
unfolding expression_read
expression_shorter test h zero words = tt
expression_shorter test h (suc count) words =
    or_shorter words (conjunction_read test (suc count) words) (λ rest. expression_read test count rest) (λ rest. expression_shorter test h count rest) (conjunction_shorter test h (suc count) words)

group_shorter : (words more : Words) (answer : Result (Got Expression) Stop) → length words ≤ length more → Shorter words answer → Shorter more (in_group answer)
group_shorter words more (Err stopped) le s = tt
group_shorter words more (Ok g) le s = at g.rest s
  where
    at : (rest : Words) → length rest ≤ length words → Shorter more (closed_before g.value rest)
    at [] less = tt
    at (word ∷ rest) less = by (joiner_named word)
      where
        by : (joiner : Option Joiner) → Shorter more (closed_at joiner g.value rest)
        by None = tt
        by (Some And) = tt
        by (Some Or) = tt
        by (Some Close) = omega arith

checked_shorter : (numeric is_left is_right : Bool) (left right : ℕ) (words : Words) (g : Got Test) → length g.rest ≤ length words → Shorter words (numbers_checked numeric is_left is_right left right g)
checked_shorter false is_left is_right left right words g le = le
checked_shorter true false is_right left right words g le = tt
checked_shorter true true false left right words g le = tt
checked_shorter true true true left right words g le = le

no_test_shorter : (words rest : Words) → Shorter words (no_test rest)
no_test_shorter words [] = tt
no_test_shorter words (second ∷ []) = by (is_some (binary_named second))
  where
    by : (b : Bool) → Shorter words (incomplete_if b)
    by true = tt
    by false = tt
no_test_shorter words (second ∷ third ∷ rest) = tt

prefix_shorter : (first : List ℕ) (rest : Words) (test : ℕ → Result (Got Test) Stop) (expression : ℕ → Result (Got Expression) Stop)
    → ((less : ℕ) → Shorter rest (test less)) → ((less : ℕ) → Shorter rest (expression less)) → (prefix : Option Prefix) (room : ℕ)
    → Shorter (first ∷ rest) (by_case None prefix first rest room test expression)
prefix_shorter first rest test expression t e None room = no_test_shorter (first ∷ rest) rest
prefix_shorter first rest test expression t e (Some Not) zero = tt
prefix_shorter first rest test expression t e (Some Not) (suc room) = part_shorter negated rest (first ∷ rest) (test room) (omega arith) (t room)
prefix_shorter first rest test expression t e (Some Open) zero = tt
prefix_shorter first rest test expression t e (Some Open) (suc room) = group_shorter rest (first ∷ rest) (expression room) (omega arith) (e room)
prefix_shorter first [] test expression t e (Some (On operator)) room = tt
prefix_shorter first (text ∷ rest) test expression t e (Some (On operator)) room = omega arith

case_shorter : (first : List ℕ) (rest : Words) (test : ℕ → Result (Got Test) Stop) (expression : ℕ → Result (Got Expression) Stop)
    → ((less : ℕ) → Shorter rest (test less)) → ((less : ℕ) → Shorter rest (expression less)) → (prefix : Option Prefix) (room : ℕ)
    → Shorter (first ∷ rest) (by_case (comparing rest) prefix first rest room test expression)
case_shorter first [] test expression t e prefix room = prefix_shorter first [] test expression t e prefix room
case_shorter first (second ∷ []) test expression t e prefix room = prefix_shorter first (second ∷ []) test expression t e prefix room
case_shorter first (second ∷ third ∷ behind) test expression t e prefix room = by (binary_named second)
  where
    by : (found : Option Binary) → Shorter (first ∷ second ∷ third ∷ behind) (by_case (comparing_by found third behind) prefix first (second ∷ third ∷ behind) room test expression)
    by None = prefix_shorter first (second ∷ third ∷ behind) test expression t e prefix room
    by (Some operator) = checked_shorter (is_numeric operator) (is_some (number_of first)) (is_some (number_of third)) _ _ (first ∷ second ∷ third ∷ behind) (got (compared first operator third) behind) (omega arith)

test_shorter : (count room : ℕ) (words : Words) → Shorter words (test_read count room words)
unfolding test_read
test_shorter zero room words = tt
test_shorter (suc count) room [] = tt
test_shorter (suc count) room (first ∷ rest) =
    case_shorter first rest (λ less. test_read count less rest) (λ less. expression_read (λ words. test_read count less words) count rest) (λ less. test_shorter count less rest)
    (λ less. expression_shorter (λ words. test_read count less words) (λ words. test_shorter count less words) count rest) (prefix_named first) room

-- ---- no joiner is left where it could join

abbrev Lacks : Joiner → Words → Type 0
Lacks joiner [] = Unit {0}
Lacks joiner (word ∷ rest) = joiner_named word ≡ Some joiner → ⊥

abbrev Ends : {T : Type 0} → Joiner → Result (Got T) Stop → Type 0
Ends joiner answer = IfOk answer (λ g. Lacks joiner g.rest)

part_ends : {T U : Type 0} (joiner : Joiner) (larger : T → U) (answer : Result (Got T) Stop) → Ends joiner answer → Ends joiner (as_part larger answer)
part_ends joiner larger (Ok g) h = h
part_ends joiner larger (Err stopped) h = tt

and_ends : (answer : Result (Got Test) Stop) (more : Words → Result (Got Conjunction) Stop) → ((rest : Words) → Ends And (more rest)) → Ends And (and_after answer more)
and_ends (Err stopped) more h = tt
and_ends (Ok g) more h = at g.rest
  where
    at : (rest : Words) → Ends And (and_before g.value rest more)
    at [] = tt
    at (word ∷ rest) = by (joiner_named word) refl
      where
        by : (joiner : Option Joiner) → joiner_named word ≡ joiner → Ends And (and_at joiner g.value word rest more)
        by None is = λ e. absurd cc
        by (Some And) is = part_ends And (both g.value) (more rest) (h rest)
        by (Some Or) is = λ e. absurd cc
        by (Some Close) is = λ e. absurd cc

conjunction_ends : (test : Words → Result (Got Test) Stop) (count : ℕ) (words : Words) → Ends And (conjunction_read test count words)
unfolding conjunction_read
conjunction_ends test zero words = tt
conjunction_ends test (suc count) words = and_ends (test words) (λ rest. conjunction_read test count rest) (λ rest. conjunction_ends test count rest)

or_ends : (answer : Result (Got Conjunction) Stop) (more : Words → Result (Got Expression) Stop) → ((rest : Words) → Ends Or (more rest)) → Ends Or (or_after answer more)
or_ends (Err stopped) more h = tt
or_ends (Ok g) more h = at g.rest
  where
    at : (rest : Words) → Ends Or (or_before g.value rest more)
    at [] = tt
    at (word ∷ rest) = by (joiner_named word) refl
      where
        by : (joiner : Option Joiner) → joiner_named word ≡ joiner → Ends Or (or_at joiner g.value word rest more)
        by None is = λ e. absurd cc
        by (Some And) is = λ e. absurd cc
        by (Some Or) is = part_ends Or (either g.value) (more rest) (h rest)
        by (Some Close) is = λ e. absurd cc

and_ends_or : (answer : Result (Got Conjunction) Stop) (more : Words → Result (Got Expression) Stop) → Ends And answer → ((rest : Words) → Ends And (more rest)) → Ends And (or_after answer more)
and_ends_or (Err stopped) more a h = tt
and_ends_or (Ok g) more a h = at g.rest a
  where
    at : (rest : Words) → Lacks And rest → Ends And (or_before g.value rest more)
    at [] a = tt
    at (word ∷ rest) a = by (joiner_named word)
      where
        by : (joiner : Option Joiner) → Ends And (or_at joiner g.value word rest more)
        by None = a
        by (Some And) = a
        by (Some Or) = part_ends And (either g.value) (more rest) (h rest)
        by (Some Close) = a

expression_ends : (test : Words → Result (Got Test) Stop) (count : ℕ) (words : Words) → Ends Or (expression_read test count words)
unfolding expression_read
expression_ends test zero words = tt
expression_ends test (suc count) words = or_ends (conjunction_read test (suc count) words) (λ rest. expression_read test count rest) (λ rest. expression_ends test count rest)

expression_lacks_and : (test : Words → Result (Got Test) Stop) (count : ℕ) (words : Words) → Ends And (expression_read test count words)
unfolding expression_read
expression_lacks_and test zero words = tt
expression_lacks_and test (suc count) words =
    and_ends_or (conjunction_read test (suc count) words) (λ rest. expression_read test count rest) (conjunction_ends test (suc count) words) (λ rest. expression_lacks_and test count rest)

-- ---- what was read, and how the reading goes on

abbrev goes : {T : Type 0} → Result (Got T) Stop → (T → Words → Result Expression Stop) → Result Expression Stop
goes (Ok g) more = more g.value g.rest
goes (Err stopped) more = Err stopped

-- the reading of these words reads this, and goes on after it
abbrev Alike : {T : Type 0} → Words → (room : ℕ) → Frames → Result (Got T) Stop → (T → State) → Type 0
Alike words room frames answer state = read_on words (Due room frames) ≡ goes answer (λ value rest. read_on rest (state value))

goes_as_part : {T U : Type 0} (larger : T → U) (answer : Result (Got T) Stop) (more : U → Words → Result Expression Stop) → goes answer (λ value rest. more (larger value) rest) ≡ goes (as_part larger answer) more
goes_as_part larger (Ok g) more = refl
goes_as_part larger (Err stopped) more = refl

no_words : (count room : ℕ) (frames : Frames) (words : Words) → length words ≤ 0 → read_on words (Due room frames) ≡ stop Incomplete 0
unfolding read_on
no_words count room frames [] le = refl
no_words count room frames (word ∷ rest) le = absurd (omega arith)

-- ---- tests joined by `-a`

and_same : (answer : Result (Got Test) Stop) (more : Words → Result (Got Conjunction) Stop) (words : Words) (count room : ℕ) (frames : Frames) → IsLevel frames
    → length words ≤ suc count → Shorter words answer
    → ((value : Test) (rest : Words) → length rest ≤ count → Alike rest room (behind_and value frames) (more rest) (after_all room (behind_and value frames)))
    → goes answer (λ value rest. read_on rest (Past 0 room frames value)) ≡ goes (and_after answer more) (λ value rest. read_on rest (after_all room frames value))
and_same (Err stopped) more words count room frames level le s h = refl
and_same (Ok g) more words count room frames level le s h = at g.rest s
  where
    at : (rest : Words) → length rest ≤ length words
        → read_on rest (Past 0 room frames g.value) ≡ goes (and_before g.value rest more) (λ value rest. read_on rest (after_all room frames value))
    at [] less = refl
    at (word ∷ rest) less = by (joiner_named word) refl
      where
        by : (joiner : Option Joiner) → joiner_named word ≡ joiner
            → read_on (word ∷ rest) (Past 0 room frames g.value) ≡ goes (and_at joiner g.value word rest more) (λ value rest. read_on rest (after_all room frames value))
        by None is = refl
        by (Some And) is =
            read_step word rest (Past 0 room frames g.value) (Due room (behind_and g.value frames)) (joined_by word And is rest room frames g.value level)
            ∙ h g.value rest (omega arith)
            ∙ goes_as_part (both g.value) (more rest) (λ value rest. read_on rest (after_all room frames value))
        by (Some Or) is = refl
        by (Some Close) is = refl

-- a test is read alike wherever it stands
abbrev AreAlike : (bound room : ℕ) → (test : Words → Result (Got Test) Stop) → Type 0
AreAlike bound room test = (frames : Frames) (words : Words) → length words ≤ bound → Alike words room frames (test words) (λ value. Past 0 room frames value)

conjunction_same : (bound room : ℕ) (test : Words → Result (Got Test) Stop) → AreAlike bound room test → ((words : Words) → Shorter words (test words))
    → (count : ℕ) → count ≤ bound → (frames : Frames) → IsLevel frames → (words : Words) → length words ≤ count
    → Alike words room frames (conjunction_read test count words) (after_all room frames)
unfolding conjunction_read
conjunction_same bound room test alike shorter zero fits frames level words le = no_words 0 room frames words le
conjunction_same bound room test alike shorter (suc count) fits frames level words le =
    alike frames words (omega arith)
    ∙ and_same (test words) (λ rest. conjunction_read test count rest) words count room frames level le (shorter words)
    (λ value rest less. conjunction_same bound room test alike shorter count (omega arith) (behind_and value frames) tt rest less)

-- ---- conjunctions joined by `-o`

or_same : (answer : Result (Got Conjunction) Stop) (more : Words → Result (Got Expression) Stop) (words : Words) (count room : ℕ) (frames : Frames) → IsOuter frames
    → length words ≤ suc count → Shorter words answer
    → ((value : Conjunction) (rest : Words) → length rest ≤ count → Alike rest room (behind_or value frames) (more rest) (after_in room (behind_or value frames)))
    → goes answer (λ value rest. read_on rest (after_all room frames value)) ≡ goes (or_after answer more) (λ value rest. read_on rest (after_in room frames value))
or_same (Err stopped) more words count room frames outer le s h = refl
or_same (Ok g) more words count room frames outer le s h = at g.rest s
  where
    at : (rest : Words) → length rest ≤ length words
        → read_on rest (after_all room frames g.value) ≡ goes (or_before g.value rest more) (λ value rest. read_on rest (after_in room frames value))
    at [] less = refl
    at (word ∷ rest) less = by (joiner_named word) refl
      where
        by : (joiner : Option Joiner) → joiner_named word ≡ joiner
            → read_on (word ∷ rest) (after_all room frames g.value) ≡ goes (or_at joiner g.value word rest more) (λ value rest. read_on rest (after_in room frames value))
        by None is = refl
        by (Some And) is = refl
        by (Some Or) is =
            read_step word rest (after_all room frames g.value) (Due room (behind_or g.value frames))
            (or_behind word is rest room frames g.value (outer_is_level frames outer) ∙ ap (λ f. Ok (after_or f)) (all_finished room frames g.value outer))
            ∙ h g.value rest (omega arith)
            ∙ goes_as_part (either g.value) (more rest) (λ value rest. read_on rest (after_in room frames value))
        by (Some Close) is = refl

expression_same : (bound room : ℕ) (test : Words → Result (Got Test) Stop) → AreAlike bound room test → ((words : Words) → Shorter words (test words))
    → (count : ℕ) → count ≤ bound → (frames : Frames) → IsOuter frames → (words : Words) → length words ≤ count
    → Alike words room frames (expression_read test count words) (after_in room frames)
unfolding expression_read
expression_same bound room test alike shorter zero fits frames outer words le = no_words 0 room frames words le
expression_same bound room test alike shorter (suc count) fits frames outer words le =
    conjunction_same bound room test alike shorter (suc count) fits frames (outer_is_level frames outer) words le
    ∙ or_same (conjunction_read test (suc count) words) (λ rest. expression_read test count rest) words count room frames outer le (conjunction_shorter test shorter (suc count) words)
    (λ value rest less. expression_same bound room test alike shorter count (omega arith) (behind_or value frames) tt rest less)

-- ---- a test

comparison_same : (numeric is_left is_right : Bool) (left right room : ℕ) (frames : Frames) (second third : List ℕ) (behind : Words) (test : Test)
    → go_on (numbers_checked numeric is_left is_right left right (Past 2 room frames test)) (λ state. read_on (second ∷ third ∷ behind) state)
    ≡ goes (numbers_checked numeric is_left is_right left right (got test behind)) (λ value rest. read_on rest (Past 0 room frames value))
unfolding read_on
comparison_same false is_left is_right left right room frames second third behind test = refl
comparison_same true false is_right left right room frames second third behind test = refl
comparison_same true true false left right room frames second third behind test = refl
comparison_same true true true left right room frames second third behind test = refl

negation_same : (answer : Result (Got Test) Stop) (room : ℕ) (frames : Frames)
    → goes answer (λ value rest. read_on rest (Past 0 room (negation frames) value)) ≡ goes (as_part negated answer) (λ value rest. read_on rest (Past 0 (suc room) frames value))
negation_same (Ok g) room frames = negation_over g.rest room frames g.value
negation_same (Err stopped) room frames = refl

read_stray : (word : List ℕ) (rest : Words) (state : State) (stopped : Stop) → step word rest state ≡ Err stopped → read_on (word ∷ rest) state ≡ Err stopped
unfolding read_on
read_stray word rest state stopped e = ap (λ s. go_on s (λ n. read_on rest n)) e

group_same : (answer : Result (Got Expression) Stop) (room : ℕ) (frames : Frames) → Ends And answer → Ends Or answer
    → goes answer (λ value rest. read_on rest (after_in room (group frames) value)) ≡ goes (in_group answer) (λ value rest. read_on rest (Past 0 (suc room) frames value))
group_same (Err stopped) room frames a o = refl
group_same (Ok g) room frames a o = at g.rest a o
  where
    at : (rest : Words) → Lacks And rest → Lacks Or rest
        → read_on rest (after_in room (group frames) g.value) ≡ goes (closed_before g.value rest) (λ value rest. read_on rest (Past 0 (suc room) frames value))
    at [] a o = at_end (after_in room (group frames) g.value) ∙ end_in room (group frames) g.value tt
    at (word ∷ rest) a o = by (joiner_named word) refl
      where
        by : (joiner : Option Joiner) → joiner_named word ≡ joiner
            → read_on (word ∷ rest) (after_in room (group frames) g.value) ≡ goes (closed_at joiner g.value rest) (λ value rest. read_on rest (Past 0 (suc room) frames value))
        by None is = read_stray word rest (after_in room (group frames) g.value) _ (stray_in word is rest room (group frames) g.value)
        by (Some And) is = absurd (a is)
        by (Some Or) is = absurd (o is)
        by (Some Close) is = read_step word rest (after_in room (group frames) g.value) (Past 0 (suc room) frames (grouped g.value)) (close_in word is rest room (group frames) g.value tt)

-- what is known of what stands within
record Within (rest : Words) (test : ℕ → Result (Got Test) Stop) (expression : ℕ → Result (Got Expression) Stop) : Type 0 where
  tests : (less : ℕ) (frames : Frames) → Alike rest less frames (test less) (λ value. Past 0 less frames value)
  expressions : (less : ℕ) (frames : Frames) → IsOuter frames → Alike rest less frames (expression less) (after_in less frames)
  no_and : (less : ℕ) → Ends And (expression less)
  no_or : (less : ℕ) → Ends Or (expression less)

ended_same : (b : Bool) (rest : Words) (more : Test → Words → Result Expression Stop) → go_on (ended_if b) (λ state. read_on rest state) ≡ goes (incomplete_if b) more
ended_same true rest more = refl
ended_same false rest more = refl

stray_same : (rest : Words) (more : Test → Words → Result Expression Stop) → go_on (astray rest) (λ state. read_on rest state) ≡ goes (no_test rest) more
stray_same [] more = refl
stray_same (second ∷ []) more = ended_same (is_some (binary_named second)) (second ∷ []) more
stray_same (second ∷ third ∷ rest) more = refl

question_same : (operator : Unary) (rest : Words) (room : ℕ) (frames : Frames)
    → go_on (applied_to (On operator) room frames rest) (λ state. read_on rest state) ≡ goes (question operator rest) (λ value rest. read_on rest (Past 0 room frames value))
unfolding read_on
question_same operator [] room frames = refl
question_same operator (text ∷ rest) room frames = refl

prefix_same : (first : List ℕ) (rest : Words) (test : ℕ → Result (Got Test) Stop) (expression : ℕ → Result (Got Expression) Stop) → Within rest test expression
    → (prefix : Option Prefix) (room : ℕ) (frames : Frames)
    → go_on (by_prefix prefix room frames rest) (λ state. read_on rest state) ≡ goes (by_case None prefix first rest room test expression) (λ value rest. read_on rest (Past 0 room frames value))
prefix_same first rest test expression w None room frames = stray_same rest (λ value rest. read_on rest (Past 0 room frames value))
prefix_same first rest test expression w (Some Not) zero frames = refl
prefix_same first rest test expression w (Some Not) (suc room) frames = w.tests room (negation frames) ∙ negation_same (test room) room frames
prefix_same first rest test expression w (Some Open) zero frames = refl
prefix_same first rest test expression w (Some Open) (suc room) frames = w.expressions room (group frames) tt ∙ group_same (expression room) room frames (w.no_and room) (w.no_or room)
prefix_same first rest test expression w (Some (On operator)) room frames = question_same operator rest room frames

compared_same : (first second third : List ℕ) (behind : Words) (test : ℕ → Result (Got Test) Stop) (expression : ℕ → Result (Got Expression) Stop)
    → Within (second ∷ third ∷ behind) test expression → (found : Option Binary) (room : ℕ) (frames : Frames)
    → go_on (by_comparing (comparing_by found third behind) first room frames (second ∷ third ∷ behind)) (λ state. read_on (second ∷ third ∷ behind) state)
    ≡ goes (by_case (comparing_by found third behind) (prefix_named first) first (second ∷ third ∷ behind) room test expression) (λ value rest. read_on rest (Past 0 room frames value))
compared_same first second third behind test expression w None room frames = prefix_same first (second ∷ third ∷ behind) test expression w (prefix_named first) room frames
compared_same first second third behind test expression w (Some operator) room frames =
    comparison_same (is_numeric operator) (is_some (number_of first)) (is_some (number_of third)) _ _ room frames second third behind (compared first operator third)

case_same : (first : List ℕ) (rest : Words) (test : ℕ → Result (Got Test) Stop) (expression : ℕ → Result (Got Expression) Stop) → Within rest test expression → (room : ℕ) (frames : Frames)
    → Alike (first ∷ rest) room frames (by_case (comparing rest) (prefix_named first) first rest room test expression) (λ value. Past 0 room frames value)
unfolding read_on
case_same first [] test expression w room frames = prefix_same first [] test expression w (prefix_named first) room frames
case_same first (second ∷ []) test expression w room frames = prefix_same first (second ∷ []) test expression w (prefix_named first) room frames
case_same first (second ∷ third ∷ behind) test expression w room frames = compared_same first second third behind test expression w (binary_named second) room frames

test_same : (count room : ℕ) → AreAlike count room (λ words. test_read count room words)
unfolding test_read
test_same zero room frames words le = no_words 0 room frames words le
test_same (suc count) room frames [] le = no_words 0 room frames [] (omega arith)
test_same (suc count) room frames (first ∷ rest) le =
    case_same first rest (λ less. test_read count less rest) (λ less. expression_read (λ words. test_read count less words) count rest) (record {
      tests = λ less frames. test_same count less frames rest (omega arith);
      expressions = λ less frames outer. expression_same count less (λ words. test_read count less words) (test_same count less) (λ words. test_shorter count less words) count (omega arith) frames outer rest (omega arith);
      no_and = λ less. expression_lacks_and (λ words. test_read count less words) count rest;
      no_or = λ less. expression_ends (λ words. test_read count less words) count rest;
    }) room frames

-- ---- the whole

nothing_same : (answer : Result (Got Expression) Stop) → Ends And answer → Ends Or answer → goes answer (λ value rest. read_on rest (after_in 255 outermost value)) ≡ nothing_after answer
nothing_same (Err stopped) a o = refl
nothing_same (Ok g) a o = at g.rest a o
  where
    at : (rest : Words) → Lacks And rest → Lacks Or rest → read_on rest (after_in 255 outermost g.value) ≡ all_of g.value rest
    at [] a o = at_end (after_in 255 outermost g.value) ∙ end_in 255 outermost g.value tt
    at (word ∷ rest) a o = by (joiner_named word) refl
      where
        by : (joiner : Option Joiner) → joiner_named word ≡ joiner → read_on (word ∷ rest) (after_in 255 outermost g.value) ≡ all_of g.value (word ∷ rest)
        by None is = read_stray word rest (after_in 255 outermost g.value) _ (stray_in word is rest 255 outermost g.value)
        by (Some And) is = absurd (a is)
        by (Some Or) is = absurd (o is)
        by (Some Close) is = read_stray word rest (after_in 255 outermost g.value) _ (close_in word is rest 255 outermost g.value tt)

pub cases_are_the_reading : CasesAreTheReading
unfolding reading read_by_cases
cases_are_the_reading count [] le = refl
cases_are_the_reading count (word ∷ rest) le =
    ap (placed (length (word ∷ rest))) (
    expression_same count 255 (λ words. test_read count 255 words) (test_same count 255) (λ words. test_shorter count 255 words) count (omega arith) outermost tt (word ∷ rest) le
    ∙ nothing_same (expression_read (λ words. test_read count 255 words) count (word ∷ rest)) (expression_lacks_and (λ words. test_read count 255 words) count (word ∷ rest))
    (expression_ends (λ words. test_read count 255 words) count (word ∷ rest)))

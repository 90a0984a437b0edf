-- The state after a test, a conjunction or an expression was read, and how the reading goes on from there.
use Rattle.std.proofs.Common.{◌≡◌, ℕ, suc, List, [], ◌∷◌, length, None, Some, Ok, refl, ap, ◌∙◌}
use Rattle.el_test.specs.declared.operators.Joiner.{Joiner}
use Rattle.el_test.specs.declared.operators.Joiner.TheVariants.{Or, Close}
use Rattle.el_test.specs.declared.fault.TestKind.TheVariants.{Unexpected}
use Rattle.el_test.specs.Operators.{joiner_named}
use Rattle.el_test.specs.Expressions.{Test, negated, Conjunction, only, both, Expression, alone, either}
use Rattle.el_test.specs.Reading.{Frames, outermost, negation, group, behind_and, behind_or, State, Past, stop, by_joiner, finished_test, finished_all, finished_in, all_of, in_of, closed, after_or, step, end, whole, go_on, read_on}
use Rattle.el_test.proofs.Framed.{IsLevel, IsOuter, outer_is_level}

-- ---- one step

pub read_step : (word : List ℕ) (rest : List (List ℕ)) (state next : State) → step word rest state ≡ Ok next → read_on (word ∷ rest) state ≡ read_on rest next
unfolding read_on
read_step word rest state next e = ap (λ s. go_on s (λ n. read_on rest n)) e

pub at_end : (state : State) → read_on [] state ≡ end state
unfolding read_on
at_end state = refl

-- ---- frames

pub test_finished : (room : ℕ) (frames : Frames) (test : Test) → IsLevel frames → finished_test room frames test ≡ record { room = room; frames = frames; value = test }
test_finished room outermost test h = refl
test_finished room (negation frames) test h = absurd h
test_finished room (group frames) test h = refl
test_finished room (behind_and t frames) test h = refl
test_finished room (behind_or c frames) test h = refl

pub all_finished : (room : ℕ) (frames : Frames) (rest : Conjunction) → IsOuter frames → finished_all room frames rest ≡ record { room = room; frames = frames; value = rest }
all_finished room outermost rest h = refl
all_finished room (negation frames) rest h = absurd h
all_finished room (group frames) rest h = refl
all_finished room (behind_and t frames) rest h = absurd h
all_finished room (behind_or c frames) rest h = refl

-- a finished test below `!` is the negated test
pub negation_over : (rest : List (List ℕ)) (room : ℕ) (frames : Frames) (test : Test) → read_on rest (Past 0 room (negation frames) test) ≡ read_on rest (Past 0 (suc room) frames (negated test))
unfolding read_on
negation_over [] room frames test = refl
negation_over (word ∷ rest) room frames test = refl

-- ---- the state after a conjunction and after an expression

abbrev pub after_all : ℕ → Frames → Conjunction → State
after_all room frames (only test) = Past 0 room frames test
after_all room frames (both test rest) = after_all room (behind_and test frames) rest

abbrev pub after_in : ℕ → Frames → Expression → State
after_in room frames (alone conjunction) = after_all room frames conjunction
after_in room frames (either conjunction rest) = after_in room (behind_or conjunction frames) rest

pub joined_by : (word : List ℕ) (joiner : Joiner) → joiner_named word ≡ Some joiner → (rest : List (List ℕ)) (room : ℕ) (frames : Frames) (test : Test) → IsLevel frames
    → step word rest (Past 0 room frames test) ≡ by_joiner (Some joiner) (record { room = room; frames = frames; value = test }) (suc (length rest))
joined_by word joiner is rest room frames test h =
    ap (λ j. by_joiner j (finished_test room frames test) (suc (length rest))) is
    ∙ ap (λ f. by_joiner (Some joiner) f (suc (length rest))) (test_finished room frames test h)

pub or_behind : (word : List ℕ) → joiner_named word ≡ Some Or → (rest : List (List ℕ)) (room : ℕ) (frames : Frames) (conjunction : Conjunction) → IsLevel frames
    → step word rest (after_all room frames conjunction) ≡ Ok (after_or (finished_all room frames conjunction))
or_behind word is rest room frames (only test) h = joined_by word Or is rest room frames test h
or_behind word is rest room frames (both test more) h = or_behind word is rest room (behind_and test frames) more tt

close_behind : (word : List ℕ) → joiner_named word ≡ Some Close → (rest : List (List ℕ)) (room : ℕ) (frames : Frames) (conjunction : Conjunction) → IsLevel frames
    → step word rest (after_all room frames conjunction) ≡ closed (in_of (finished_all room frames conjunction)) (suc (length rest))
close_behind word is rest room frames (only test) h = joined_by word Close is rest room frames test h
close_behind word is rest room frames (both test more) h = close_behind word is rest room (behind_and test frames) more tt

end_behind : (room : ℕ) (frames : Frames) (conjunction : Conjunction) → IsLevel frames → end (after_all room frames conjunction) ≡ whole (in_of (finished_all room frames conjunction))
end_behind room frames (only test) h = ap (λ f. whole (in_of (all_of f))) (test_finished room frames test h)
end_behind room frames (both test more) h = end_behind room (behind_and test frames) more tt

pub close_in : (word : List ℕ) → joiner_named word ≡ Some Close → (rest : List (List ℕ)) (room : ℕ) (frames : Frames) (expression : Expression) → IsOuter frames
    → step word rest (after_in room frames expression) ≡ closed (finished_in room frames expression) (suc (length rest))
close_in word is rest room frames (alone conjunction) h =
    close_behind word is rest room frames conjunction (outer_is_level frames h) ∙ ap (λ f. closed (in_of f) (suc (length rest))) (all_finished room frames conjunction h)
close_in word is rest room frames (either conjunction more) h = close_in word is rest room (behind_or conjunction frames) more tt

pub end_in : (room : ℕ) (frames : Frames) (expression : Expression) → IsOuter frames → end (after_in room frames expression) ≡ whole (finished_in room frames expression)
end_in room frames (alone conjunction) h = end_behind room frames conjunction (outer_is_level frames h) ∙ ap (λ f. whole (in_of f)) (all_finished room frames conjunction h)
end_in room frames (either conjunction more) h = end_in room (behind_or conjunction frames) more tt

-- a word that is no joiner is unexpected after both
stray_behind : (word : List ℕ) → joiner_named word ≡ None → (rest : List (List ℕ)) (room : ℕ) (frames : Frames) (conjunction : Conjunction)
    → step word rest (after_all room frames conjunction) ≡ stop Unexpected (suc (length rest))
stray_behind word is rest room frames (only test) = ap (λ j. by_joiner j (finished_test room frames test) (suc (length rest))) is
stray_behind word is rest room frames (both test more) = stray_behind word is rest room (behind_and test frames) more

pub stray_in : (word : List ℕ) → joiner_named word ≡ None → (rest : List (List ℕ)) (room : ℕ) (frames : Frames) (expression : Expression)
    → step word rest (after_in room frames expression) ≡ stop Unexpected (suc (length rest))
stray_in word is rest room frames (alone conjunction) = stray_behind word is rest room frames conjunction
stray_in word is rest room frames (either conjunction more) = stray_in word is rest room (behind_or conjunction frames) more

-- A walk in which nothing is decided reads.
use Rattle.std.proofs.Common.{◌≡◌, ℕ, suc, ◌+◌, ◌-◌, Bool, true, false, not, nat_lt, List, [], ◌∷◌, length, slice_get, slice_index_or, Option, None, Some, Result, Ok, Err, refl, sym, ap, ◌∙◌, subst, is_some, arith}
use Rattle.el_words.specs.Number.{number_of}
use Rattle.el_test.specs.declared.operators.Unary.{Unary}
use Rattle.el_test.specs.declared.operators.Unary.TheVariants.{Filled, Blank, Asked}
use Rattle.el_test.specs.declared.operators.Binary.{Binary}
use Rattle.el_test.specs.declared.operators.Prefix.{Prefix}
use Rattle.el_test.specs.declared.operators.Prefix.TheVariants.{Not, Open, On}
use Rattle.el_test.specs.declared.operators.Joiner.{Joiner}
use Rattle.el_test.specs.declared.operators.Joiner.TheVariants.{And, Or, Close}
use Rattle.el_test.specs.declared.fault.TestKind.TheVariants.{Unexpected, BadNumber}
use Rattle.el_test.specs.declared.walking.Stop.{Stop}
use Rattle.el_test.specs.declared.walking.Standing.TheVariants.{Settled}
use Rattle.el_test.specs.declared.walking.Frame.{Frame}
use Rattle.el_test.specs.declared.walking.Frame.TheVariants.{Not as NotFrame, Group}
use Rattle.el_test.specs.declared.walking.Look.TheVariants.{Compared}
use Rattle.el_test.specs.declared.ask_answers.AskAnswer.{AskAnswer}
use Rattle.el_test.specs.Operators.{binary_named, prefix_named, joiner_named, is_numeric, holds}
use Rattle.el_test.specs.Expressions.{Test, compared, negated, Conjunction, only, both, Expression, alone, either}
use Rattle.el_test.specs.Proper.{comparing_by}
use Rattle.el_test.specs.Reading.{Frames, outermost, negation, group, behind_and, behind_or, State, Due, Past, numbers_checked, deeper, ended_if, applied_to, by_comparing, by_prefix, by_joiner, Finished, finished_test, finished_all, finished_in, all_of, in_of, closed, closed_by, step, end, whole_of, go_on, read_on}
use Rattle.el_test.specs.Walking.{Walking, Walked, Act, Went, Halts, binary_at, prefix_look, binary_look, look_of, stray_if, begun, opened, unnegated, left_group, joined_at, walk_step, ended_of, ended_in, told, acted, walk}
use Rattle.el_test.specs.WalkLaws.{SettledReads, read_end}
use Rattle.el_test.proofs.Framed.{IsLevel, IsOuter, outer_is_level}

-- the code's frames
abbrev dead : Frames → List Frame
dead outermost = []
dead (negation frames) = NotFrame ∷ dead frames
dead (group frames) = Group Settled ∷ dead frames
dead (behind_and test frames) = dead frames
dead (behind_or conjunction frames) = dead frames

abbrev IsBase : Frames → Type 0
IsBase outermost = Unit {0}
IsBase (group frames) = Unit {0}
IsBase _ = ⊥

-- a conjunction waits only around whole tests, and an expression around whole conjunctions
abbrev IsFormed : Frames → Type 0
IsFormed outermost = Unit {0}
IsFormed (negation frames) = IsFormed frames
IsFormed (group frames) = IsFormed frames
IsFormed (behind_and test frames) = IsLevel frames × IsFormed frames
IsFormed (behind_or conjunction frames) = IsOuter frames × IsFormed frames

record IsGood (room : ℕ) (frames : Frames) : Type 0 where
  formed : IsFormed frames
  count : room + length (dead frames) ≡ 255

abbrev settled : List Frame → (ahead : ℕ) → Option Bool → Walking
settled frames ahead value = record { frames = frames; standing = Settled; ahead = ahead; value = value }

abbrev Matches : Result State Stop → Act → Type 0
Matches (Ok (Due room frames)) act = IsGood room frames × (act ≡ Went (settled (dead frames) 0 None))
Matches (Ok (Past ahead room frames test)) act = (value : Bool) × (IsGood room frames × (act ≡ Went (settled (dead frames) ahead (Some value))))
Matches (Err stop) act = act ≡ Halts stop

-- ---- a test is due

deeper_matches : (room : ℕ) (frames : Frames) (left : ℕ) (framed : Frames → Frames) (frame : Frame) → IsGood room frames → ((less : ℕ) → IsFormed (framed frames)) → dead (framed frames) ≡ frame ∷ dead frames
    → Matches (deeper room framed frames left) (opened (nat_lt (length (dead frames)) 255) left (settled (frame ∷ dead frames) 0 None))
deeper_matches Prim.Native.Nat.zero frames left framed frame good formed is =
    let full : nat_lt (length (dead frames)) 255 ≡ false = grind (arith, good.count) in ap (λ b. opened b left (settled (frame ∷ dead frames) 0 None)) full
deeper_matches (suc room) frames left framed frame good formed is =
    let free : nat_lt (length (dead frames)) 255 ≡ true = grind (arith, good.count) in
    let longer : length (dead (framed frames)) ≡ length (dead frames) + 1 = ap length is ∙ omega arith in (
      record { formed = formed room; count = omega (arith, good.count, longer) },
      ap (λ b. opened b left (settled (frame ∷ dead frames) 0 None)) free ∙ ap (λ f. Went (settled f 0 None)) (sym is),
    )

less_one : (n : ℕ) → n ≡ suc n - 1
less_one n = omega arith

less_two : (n : ℕ) → suc n ≡ suc (suc (suc n)) - 2
less_two n = omega arith

stray_matches : (b : Bool) (w : Walking) (left : ℕ) → Matches (ended_if b) (begun (stray_if b) w left)
unfolding begun
stray_matches true w left = refl
stray_matches false w left = refl

applied_matches : (operator : Unary) (room : ℕ) (frames : Frames) (rest : List (List ℕ)) → IsGood room frames
    → Matches (applied_to (On operator) room frames rest) (begun (prefix_look (Some (On operator)) (slice_get rest 0) (slice_get rest 1) (suc (length rest))) (settled (dead frames) 0 None) (suc (length rest)))
unfolding begun prefix_look
applied_matches operator room frames [] good = refl
applied_matches Filled room frames (text ∷ rest) good = (_, (good, refl))
applied_matches Blank room frames (text ∷ rest) good = (_, (good, refl))
applied_matches (Asked question) room frames (text ∷ rest) good = (_, (good, refl))

prefix_matches : (found : Option Prefix) (room : ℕ) (frames : Frames) (rest : List (List ℕ)) → IsGood room frames
    → Matches (by_prefix found room frames rest) (begun (prefix_look found (slice_get rest 0) (slice_get rest 1) (suc (length rest))) (settled (dead frames) 0 None) (suc (length rest)))
unfolding begun prefix_look
prefix_matches None room frames [] good = refl
prefix_matches None room frames (second ∷ []) good = stray_matches (is_some (binary_named second)) (settled (dead frames) 0 None) _
prefix_matches None room frames (second ∷ third ∷ rest) good = ap (λ n. Halts (record { kind = Unexpected; left = n })) (sym (less_one (length (second ∷ third ∷ rest))))
prefix_matches (Some Not) room frames rest good = deeper_matches room frames (suc (length rest)) negation NotFrame good (λ less. good.formed) refl
prefix_matches (Some Open) room frames rest good = deeper_matches room frames (suc (length rest)) group (Group Settled) good (λ less. good.formed) refl
prefix_matches (Some (On operator)) room frames rest good = applied_matches operator room frames rest good

checked_matches : (numeric is_left is_right : Bool) (left right also : ℕ) (value : Bool) (room : ℕ) (frames : Frames) (test : Test) (w : ℕ) → IsGood room frames → right ≡ also
    → Matches (numbers_checked numeric is_left is_right left right (Past 2 room frames test)) (begun (numbers_checked numeric is_left is_right left also (Compared value)) (settled (dead frames) 0 None) w)
unfolding begun
checked_matches false is_left is_right left right also value room frames test w good same = (value, (good, refl))
checked_matches true false is_right left right also value room frames test w good same = refl
checked_matches true true false left right also value room frames test w good same = ap (λ n. Halts (record { kind = BadNumber; left = n })) (sym same)
checked_matches true true true left right also value room frames test w good same = (value, (good, refl))

due_matches : (word : List ℕ) (rest : List (List ℕ)) (room : ℕ) (frames : Frames) → IsGood room frames → Matches (step word rest (Due room frames)) (walk_step word rest (settled (dead frames) 0 None))
unfolding walk_step look_of binary_at binary_look
due_matches word [] room frames good = prefix_matches (prefix_named word) room frames [] good
due_matches word (second ∷ []) room frames good = prefix_matches (prefix_named word) room frames (second ∷ []) good
due_matches word (second ∷ third ∷ behind) room frames good = by (binary_named second)
  where
    by : (found : Option Binary)
        → Matches (by_comparing (comparing_by found third behind) word room frames (second ∷ third ∷ behind))
        (begun (binary_look found word (Some second) (Some third) (suc (length (second ∷ third ∷ behind)))) (settled (dead frames) 0 None) (suc (length (second ∷ third ∷ behind))))
    by None = prefix_matches (prefix_named word) room frames (second ∷ third ∷ behind) good
    by (Some operator) = checked_matches (is_numeric operator) (is_some (number_of word)) (is_some (number_of third)) _ _ _ (holds operator word third) room frames (compared word operator third) _ good (less_two (length behind))

-- ---- a test was read

level_stays : (frames : Frames) (value : Bool) → IsLevel frames → IsFormed frames → unnegated (dead frames) value ≡ record { frames = dead frames; value = value }
level_stays outermost value l h = refl
level_stays (negation frames) value l h = absurd l
level_stays (group frames) value l h = refl
level_stays (behind_and test frames) value l h = level_stays frames value h.0 h.1
level_stays (behind_or conjunction frames) value l h = level_stays frames value (outer_is_level frames h.0) h.1

record TestDone (f : Finished Test) (frames : List Frame) (value : Bool) : Type 0 where
  level : IsLevel f.frames
  good : IsGood f.room f.frames
  turned : Bool
  is : unnegated frames value ≡ record { frames = dead f.frames; value = turned }

test_done : (room : ℕ) (frames : Frames) (test : Test) (value : Bool) → IsGood room frames → TestDone (finished_test room frames test) (dead frames) value
test_done room outermost test value good = record { level = tt; good = good; turned = value; is = refl }
test_done room (negation frames) test value good =
    let inner = test_done (suc room) frames (negated test) (not value) (record { formed = good.formed; count = omega (arith, good.count) }) in
    record { level = inner.level; good = inner.good; turned = inner.turned; is = inner.is }
test_done room (group frames) test value good = record { level = tt; good = good; turned = value; is = refl }
test_done room (behind_and t frames) test value good = record { level = tt; good = good; turned = value; is = level_stays (behind_and t frames) value tt good.formed }
test_done room (behind_or c frames) test value good = record { level = tt; good = good; turned = value; is = level_stays (behind_or c frames) value tt good.formed }

record AllDone (f : Finished Conjunction) (frames : List Frame) : Type 0 where
  outer : IsOuter f.frames
  good : IsGood f.room f.frames
  is : dead f.frames ≡ frames

all_done : (room : ℕ) (frames : Frames) (conjunction : Conjunction) → IsLevel frames → IsGood room frames → AllDone (finished_all room frames conjunction) (dead frames)
all_done room outermost conjunction l good = record { outer = tt; good = good; is = refl }
all_done room (negation frames) conjunction l good = absurd l
all_done room (group frames) conjunction l good = record { outer = tt; good = good; is = refl }
all_done room (behind_and test frames) conjunction l good = all_done room frames (both test conjunction) good.formed.0 (record { formed = good.formed.1; count = good.count })
all_done room (behind_or c frames) conjunction l good = record { outer = tt; good = good; is = refl }

record InDone (f : Finished Expression) (frames : List Frame) : Type 0 where
  base : IsBase f.frames
  good : IsGood f.room f.frames
  is : dead f.frames ≡ frames

in_done : (room : ℕ) (frames : Frames) (expression : Expression) → IsOuter frames → IsGood room frames → InDone (finished_in room frames expression) (dead frames)
in_done room outermost expression o good = record { base = tt; good = good; is = refl }
in_done room (negation frames) expression o good = absurd o
in_done room (group frames) expression o good = record { base = tt; good = good; is = refl }
in_done room (behind_and test frames) expression o good = absurd o
in_done room (behind_or c frames) expression o good = in_done room frames (either c expression) good.formed.0 (record { formed = good.formed.1; count = good.count })

closed_matches : (room : ℕ) (frames : Frames) (expression : Expression) (left : ℕ) (value : Bool) → IsBase frames → IsGood room frames → Matches (closed_by room frames expression left) (left_group (dead frames) value left)
closed_matches room outermost expression left value b good = refl
closed_matches room (negation frames) expression left value b good = absurd b
closed_matches room (group frames) expression left value b good = (value, (record { formed = good.formed; count = omega (arith, good.count) }, refl))
closed_matches room (behind_and test frames) expression left value b good = absurd b
closed_matches room (behind_or c frames) expression left value b good = absurd b

all_of_done : (f : Finished Test) (frames : List Frame) (value : Bool) → TestDone f frames value → AllDone (all_of f) (dead f.frames)
all_of_done f frames value d = all_done f.room f.frames (only f.value) d.level d.good

in_of_done : (f : Finished Conjunction) (frames : List Frame) → AllDone f frames → InDone (in_of f) frames
in_of_done f frames d = subst (InDone (in_of f)) d.is (in_done f.room f.frames (alone f.value) d.outer d.good)

joiner_matches : (found : Option Joiner) (f : Finished Test) (frames : List Frame) (value : Bool) (left : ℕ) → TestDone f frames value → Matches (by_joiner found f left) (joined_at found (unnegated frames value) Settled left)
unfolding joined_at
joiner_matches None f frames value left d = refl
joiner_matches (Some And) f frames value left d =
    (record { formed = (d.level, d.good.formed); count = d.good.count }, ap (λ u. Went (settled u.frames 0 None)) d.is)
joiner_matches (Some Or) f frames value left d =
    let all = all_of_done f frames value d in
    (record { formed = (all.outer, all.good.formed); count = all.good.count }, ap (λ u. Went (settled u.frames 0 None)) d.is ∙ ap (λ l. Went (settled l 0 None)) (sym all.is))
joiner_matches (Some Close) f frames value left d =
    let done = in_of_done (all_of f) (dead f.frames) (all_of_done f frames value d) in
    subst (λ l. Matches (closed (in_of (all_of f)) left) (left_group l true left)) (done.is ∙ sym (ap (λ u. u.frames) d.is))
    (closed_matches (in_of (all_of f)).room (in_of (all_of f)).frames (in_of (all_of f)).value left true done.base done.good)

-- ---- the whole

whole_matches : (frames : Frames) (expression : Expression) → IsBase frames → read_end (whole_of frames expression) ≡ told (ended_in (dead frames) true)
whole_matches outermost expression b = refl
whole_matches (negation frames) expression b = absurd b
whole_matches (group frames) expression b = refl
whole_matches (behind_and test frames) expression b = absurd b
whole_matches (behind_or c frames) expression b = absurd b

abbrev GoodState : State → Type 0
GoodState (Due room frames) = IsGood room frames
GoodState (Past ahead room frames test) = IsGood room frames

-- the walk at a state; the value of a test doesn't count
abbrev at_state : State → Bool → Walking
at_state (Due room frames) value = settled (dead frames) 0 None
at_state (Past ahead room frames test) value = settled (dead frames) ahead (Some value)

step_matches : (word : List ℕ) (rest : List (List ℕ)) (state : State) (value : Bool) → GoodState state → Matches (step word rest state) (walk_step word rest (at_state state value))
unfolding walk_step
step_matches word rest (Due room frames) value good = due_matches word rest room frames good
step_matches word rest (Past Prim.Native.Nat.zero room frames test) value good = joiner_matches (joiner_named word) (finished_test room frames test) (dead frames) value (suc (length rest)) (test_done room frames test value good)
step_matches word rest (Past (suc ahead) room frames test) value good = (value, (good, refl))

end_matches : (state : State) (value : Bool) → GoodState state → told (ended_of (at_state state value)) ≡ read_end (end state)
unfolding ended_of
end_matches (Due room frames) value good = refl
end_matches (Past Prim.Native.Nat.zero room frames test) value good =
    let d = test_done room frames test value good in
    let done = in_of_done (all_of (finished_test room frames test)) (dead (finished_test room frames test).frames) (all_of_done (finished_test room frames test) (dead frames) value d) in
    ap (λ u. told (ended_in u.frames true)) d.is ∙ ap (λ l. told (ended_in l true)) (sym done.is)
    ∙ sym (whole_matches (in_of (all_of (finished_test room frames test))).frames (in_of (all_of (finished_test room frames test))).value done.base)
end_matches (Past (suc ahead) room frames test) value good = refl

abbrev ReadsSo : List AskAnswer → Result Expression Stop → Walked → Type 0
ReadsSo answers read w = w ≡ record { asks = []; left = answers; end = read_end read }

goes : (answer : Result State Stop) (act : Act) (dir path : List ℕ) (answers : List AskAnswer) (more : Walking → List AskAnswer → Walked) (read : State → Result Expression Stop) → Matches answer act
    → ((state : State) (value : Bool) → GoodState state → ReadsSo answers (read state) (more (at_state state value) answers))
    → ReadsSo answers (go_on answer read) (acted act dir path answers more)
goes (Ok (Due room frames)) act dir path answers more read m h = ap (λ a. acted a dir path answers more) m.1 ∙ h (Due room frames) true m.0
goes (Ok (Past ahead room frames test)) act dir path answers more read m h = ap (λ a. acted a dir path answers more) m.1.1 ∙ h (Past ahead room frames test) m.0 m.1.0
goes (Err stop) act dir path answers more read m h = ap (λ a. acted a dir path answers more) m

reads : (dir : List ℕ) (words : List (List ℕ)) (answers : List AskAnswer) (state : State) (value : Bool) → GoodState state → ReadsSo answers (read_on words state) (walk dir words (at_state state value) answers)
unfolding walk read_on
reads dir [] answers state value good = ap (λ e. record { asks = []; left = answers; end = e }) (end_matches state value good)
reads dir (word ∷ rest) answers state value good =
    goes (step word rest state) (walk_step word rest (at_state state value)) dir (slice_index_or rest 0 []) answers (λ next left. walk dir rest next left) (λ next. read_on rest next)
    (step_matches word rest state value good) (λ next v k. reads dir rest answers next v k)

pub settled_reads : SettledReads
settled_reads dir words answers = reads dir words answers (Due 255 outermost) true (record { formed = tt; count = refl })

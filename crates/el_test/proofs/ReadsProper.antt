-- What is read is proper, and its words are the words read.
use Rattle.std.proofs.Common.{◌≡◌, ℕ, suc, Bool, true, false, not, ◌||◌, ◌&&◌, List, [], ◌∷◌, ◌++◌, length, Option, None, Some, Result, Ok, Err, refl, sym, ap, ◌∙◌, subst, is_some, append_assoc, append-nil, IfSome, IfOk}
use Rattle.el_words.specs.Number.{number_of}
use Rattle.el_test.specs.declared.operators.Binary.{Binary}
use Rattle.el_test.specs.declared.operators.Unary.{Unary}
use Rattle.el_test.specs.declared.operators.Prefix.{Prefix}
use Rattle.el_test.specs.declared.operators.Prefix.TheVariants.{Not, Open, On}
use Rattle.el_test.specs.declared.operators.Joiner.{Joiner}
use Rattle.el_test.specs.declared.operators.Joiner.TheVariants.{And, Or, Close}
use Rattle.el_test.specs.declared.walking.Stop.{Stop}
use Rattle.el_test.specs.Operators.{binary_text, prefix_text, joiner_text, binary_named, prefix_named, joiner_named, is_numeric}
use Rattle.el_test.specs.Expressions.{Test, compared, negated, Conjunction, only, both, Expression, alone, either, written_test, written_all, written_in, written}
use Rattle.el_test.specs.Proper.{comparing, comparing_by, IsProperTest, AreProper, IsProperIn, IsProper}
use Rattle.el_test.specs.Reading.{Frames, outermost, negation, group, behind_and, behind_or, State, Due, Past, numbers_checked, deeper, ended_if, astray, applied_to, by_comparing, by_prefix, by_joiner, Finished, finished_test, finished_all, finished_in, all_of, in_of, closed_by, step, end, whole_of, go_on, read_on, placed, reading}
use Rattle.el_test.specs.Laws.{ReadIsProper}
use Rattle.el_test.proofs.Named.{binary_has_text, prefix_has_text, joiner_has_text}

abbrev Words : Type 0
Words = List (List ℕ)

-- what is open is proper before the words that are read in it, and these words behind what is open are all the words
abbrev Fits : Frames → (room : ℕ) → (inner all : Words) → Type 0
Fits outermost room inner all = (room ≡ 255) × (inner ≡ all)
Fits (negation frames) room inner all = (comparing inner ≡ None) × Fits frames (suc room) (prefix_text Not ∷ inner) all
Fits (group frames) room inner all = (comparing inner ≡ None) × Fits frames (suc room) (prefix_text Open ∷ inner) all
Fits (behind_and test frames) room inner all = IsProperTest room test (joiner_text And ∷ inner) × Fits frames room (written_test test ++ joiner_text And ∷ inner) all
Fits (behind_or conjunction frames) room inner all = AreProper room conjunction (joiner_text Or ∷ inner) × Fits frames room (written_all conjunction ++ joiner_text Or ∷ inner) all

-- without the first words
abbrev past : ℕ → Words → Words
past Prim.Native.Nat.zero words = words
past (suc count) [] = []
past (suc count) (word ∷ words) = past count words

abbrev StateFits : State → (rest all : Words) → Type 0
StateFits (Due room frames) rest all = Fits frames room rest all
StateFits (Past ahead room frames test) rest all = IsProperTest room test (past ahead rest) × Fits frames room (written_test test ++ past ahead rest) all

-- ---- what is finished

abbrev TestFits : Finished Test → (rest all : Words) → Type 0
TestFits f rest all = IsProperTest f.room f.value rest × Fits f.frames f.room (written_test f.value ++ rest) all

abbrev AllFits : Finished Conjunction → (rest all : Words) → Type 0
AllFits f rest all = AreProper f.room f.value rest × Fits f.frames f.room (written_all f.value ++ rest) all

abbrev InFits : Finished Expression → (rest all : Words) → Type 0
InFits f rest all = IsProperIn f.room f.value rest × Fits f.frames f.room (written_in f.value ++ rest) all

test_fits : (frames : Frames) (room : ℕ) (test : Test) (rest all : Words) → IsProperTest room test rest → Fits frames room (written_test test ++ rest) all
    → TestFits (finished_test room frames test) rest all
test_fits outermost room test rest all p f = (p, f)
test_fits (negation frames) room test rest all p f = test_fits frames (suc room) (negated test) rest all (f.0, p) f.1
test_fits (group frames) room test rest all p f = (p, f)
test_fits (behind_and t frames) room test rest all p f = (p, f)
test_fits (behind_or c frames) room test rest all p f = (p, f)

all_fits : (frames : Frames) (room : ℕ) (more : Conjunction) (rest all : Words) → AreProper room more rest → Fits frames room (written_all more ++ rest) all
    → AllFits (finished_all room frames more) rest all
all_fits outermost room more rest all p f = (p, f)
all_fits (negation frames) room more rest all p f = (p, f)
all_fits (group frames) room more rest all p f = (p, f)
all_fits (behind_and test frames) room more rest all p f =
    all_fits frames room (both test more) rest all (f.0, p)
    (subst (λ w. Fits frames room w all) (sym (append_assoc (written_test test) (joiner_text And ∷ written_all more) rest)) f.1)
all_fits (behind_or c frames) room more rest all p f = (p, f)

in_fits : (frames : Frames) (room : ℕ) (more : Expression) (rest all : Words) → IsProperIn room more rest → Fits frames room (written_in more ++ rest) all
    → InFits (finished_in room frames more) rest all
in_fits outermost room more rest all p f = (p, f)
in_fits (negation frames) room more rest all p f = (p, f)
in_fits (group frames) room more rest all p f = (p, f)
in_fits (behind_and test frames) room more rest all p f = (p, f)
in_fits (behind_or conjunction frames) room more rest all p f =
    in_fits frames room (either conjunction more) rest all (f.0, p)
    (subst (λ w. Fits frames room w all) (sym (append_assoc (written_all conjunction) (joiner_text Or ∷ written_in more) rest)) f.1)

all_of_fits : (f : Finished Test) (rest all : Words) → TestFits f rest all → AllFits (all_of f) rest all
all_of_fits f rest all h = all_fits f.frames f.room (only f.value) rest all h.0 h.1

in_of_fits : (f : Finished Conjunction) (rest all : Words) → AllFits f rest all → InFits (in_of f) rest all
in_of_fits f rest all h = in_fits f.frames f.room (alone f.value) rest all h.0 h.1

-- ---- one step keeps it

abbrev Keeps : Result State Stop → (rest all : Words) → Type 0
Keeps answer rest all = IfOk answer (λ state. StateFits state rest all)

checked_keeps : (numeric is_left is_right : Bool) (left right : ℕ) (next : State) (rest all : Words)
    → ((not numeric || (is_left && is_right)) ≡ true → StateFits next rest all) → Keeps (numbers_checked numeric is_left is_right left right next) rest all
checked_keeps false is_left is_right left right next rest all h = h refl
checked_keeps true false is_right left right next rest all h = tt
checked_keeps true true false left right next rest all h = tt
checked_keeps true true true left right next rest all h = h refl

deeper_keeps : (room : ℕ) (frames : Frames) (left : ℕ) (rest all : Words) (prefix : Prefix) (framed : Frames → Frames)
    → ((less : ℕ) → Fits frames (suc less) (prefix_text prefix ∷ rest) all → Fits (framed frames) less rest all)
    → Fits frames room (prefix_text prefix ∷ rest) all → Keeps (deeper room framed frames left) rest all
deeper_keeps Prim.Native.Nat.zero frames left rest all prefix framed opens f = tt
deeper_keeps (suc room) frames left rest all prefix framed opens f = opens room f

ended_keeps : (b : Bool) (rest all : Words) → Keeps (ended_if b) rest all
ended_keeps true rest all = tt
ended_keeps false rest all = tt

astray_keeps : (rest all : Words) → Keeps (astray rest) rest all
astray_keeps [] all = tt
astray_keeps (second ∷ []) all = ended_keeps (is_some (binary_named second)) (second ∷ []) all
astray_keeps (second ∷ third ∷ rest) all = tt

looked_keeps : (operator : Unary) (room : ℕ) (frames : Frames) (rest all : Words) → comparing rest ≡ None → Fits frames room (prefix_text (On operator) ∷ rest) all
    → Keeps (applied_to (On operator) room frames rest) rest all
looked_keeps operator room frames [] all none f = tt
looked_keeps operator room frames (text ∷ rest) all none f = (none, f)

prefix_keeps : (found : Option Prefix) (word : List ℕ) (room : ℕ) (frames : Frames) (rest all : Words) → IfSome found (λ prefix. prefix_text prefix ≡ word) → comparing rest ≡ None
    → Fits frames room (word ∷ rest) all → Keeps (by_prefix found room frames rest) rest all
prefix_keeps None word room frames rest all text none f = astray_keeps rest all
prefix_keeps (Some Not) word room frames rest all text none f =
    deeper_keeps room frames (suc (length rest)) rest all Not negation (λ less g. (none, g)) (subst (λ w. Fits frames room (w ∷ rest) all) (sym text) f)
prefix_keeps (Some Open) word room frames rest all text none f =
    deeper_keeps room frames (suc (length rest)) rest all Open group (λ less g. (none, g)) (subst (λ w. Fits frames room (w ∷ rest) all) (sym text) f)
prefix_keeps (Some (On operator)) word room frames rest all text none f =
    looked_keeps operator room frames rest all none (subst (λ w. Fits frames room (w ∷ rest) all) (sym text) f)

due_keeps : (word : List ℕ) (rest : Words) (room : ℕ) (frames : Frames) (all : Words) → Fits frames room (word ∷ rest) all → Keeps (step word rest (Due room frames)) rest all
due_keeps word [] room frames all f = prefix_keeps (prefix_named word) word room frames [] all (prefix_has_text word) refl f
due_keeps word (second ∷ []) room frames all f = prefix_keeps (prefix_named word) word room frames (second ∷ []) all (prefix_has_text word) refl f
due_keeps word (second ∷ third ∷ behind) room frames all f = by (binary_named second) refl
  where
    by : (found : Option Binary) → binary_named second ≡ found → Keeps (step word (second ∷ third ∷ behind) (Due room frames)) (second ∷ third ∷ behind) all
    by None is = subst (λ o. Keeps (by_comparing (comparing_by o third behind) word room frames (second ∷ third ∷ behind)) (second ∷ third ∷ behind) all) (sym is)
        (prefix_keeps (prefix_named word) word room frames (second ∷ third ∷ behind) all (prefix_has_text word) (ap (λ o. comparing_by o third behind) is) f)
    by (Some operator) is = subst (λ o. Keeps (by_comparing (comparing_by o third behind) word room frames (second ∷ third ∷ behind)) (second ∷ third ∷ behind) all) (sym is)
        (checked_keeps (is_numeric operator) (is_some (number_of word)) (is_some (number_of third)) _ _ (Past 2 room frames (compared word operator third)) (second ∷ third ∷ behind) all
        (λ fit. (fit, subst (λ s. Fits frames room (word ∷ s ∷ third ∷ behind) all) (sym (text_is operator is)) f)))
      where
        text_is : (operator : Binary) → binary_named second ≡ Some operator → binary_text operator ≡ second
        text_is operator is = subst (λ o. IfSome o (λ x. binary_text x ≡ second)) is (binary_has_text second)

closed_keeps : (frames : Frames) (room : ℕ) (expression : Expression) (left : ℕ) (rest all : Words) → IsProperIn room expression (joiner_text Close ∷ rest)
    → Fits frames room (written_in expression ++ joiner_text Close ∷ rest) all → Keeps (closed_by room frames expression left) rest all
closed_keeps outermost room expression left rest all p f = tt
closed_keeps (negation frames) room expression left rest all p f = tt
closed_keeps (group frames) room expression left rest all p f =
    ((f.0, p), subst (λ w. Fits frames (suc room) (prefix_text Open ∷ w) all) (sym (append_assoc (written_in expression) (joiner_text Close ∷ []) rest)) f.1)
closed_keeps (behind_and test frames) room expression left rest all p f = tt
closed_keeps (behind_or conjunction frames) room expression left rest all p f = tt

joiner_keeps : (found : Option Joiner) (word : List ℕ) (f : Finished Test) (left : ℕ) (rest all : Words) → IfSome found (λ joiner. joiner_text joiner ≡ word)
    → TestFits f (word ∷ rest) all → Keeps (by_joiner found f left) rest all
joiner_keeps None word f left rest all text h = tt
joiner_keeps (Some And) word f left rest all text h = subst (λ w. TestFits f (w ∷ rest) all) (sym text) h
joiner_keeps (Some Or) word f left rest all text h = all_of_fits f (joiner_text Or ∷ rest) all (subst (λ w. TestFits f (w ∷ rest) all) (sym text) h)
joiner_keeps (Some Close) word f left rest all text h =
    let done = in_of_fits (all_of f) (joiner_text Close ∷ rest) all (all_of_fits f (joiner_text Close ∷ rest) all (subst (λ w. TestFits f (w ∷ rest) all) (sym text) h)) in
    closed_keeps (in_of (all_of f)).frames (in_of (all_of f)).room (in_of (all_of f)).value left rest all done.0 done.1

step_keeps : (word : List ℕ) (rest : Words) (state : State) (all : Words) → StateFits state (word ∷ rest) all → Keeps (step word rest state) rest all
step_keeps word rest (Due room frames) all h = due_keeps word rest room frames all h
step_keeps word rest (Past Prim.Native.Nat.zero room frames test) all h =
    joiner_keeps (joiner_named word) word (finished_test room frames test) (suc (length rest)) rest all (joiner_has_text word) (test_fits frames room test (word ∷ rest) all h.0 h.1)
step_keeps word rest (Past (suc ahead) room frames test) all h = h

-- ---- the whole

abbrev IsWhole : (all : Words) → Expression → Type 0
IsWhole all expression = IsProperIn 255 expression [] × (written_in expression ≡ all)

whole_fits : (frames : Frames) (room : ℕ) (expression : Expression) (all : Words) → IsProperIn room expression [] → Fits frames room (written_in expression ++ []) all
    → IfOk (whole_of frames expression) (IsWhole all)
whole_fits outermost room expression all p f = (subst (λ r. IsProperIn r expression []) f.0 p, sym (append-nil (written_in expression)) ∙ f.1)
whole_fits (negation frames) room expression all p f = tt
whole_fits (group frames) room expression all p f = tt
whole_fits (behind_and test frames) room expression all p f = tt
whole_fits (behind_or conjunction frames) room expression all p f = tt

end_fits : (state : State) (all : Words) → StateFits state [] all → IfOk (end state) (IsWhole all)
end_fits (Due room frames) all h = tt
end_fits (Past Prim.Native.Nat.zero room frames test) all h =
    let done = in_of_fits (all_of (finished_test room frames test)) [] all (all_of_fits (finished_test room frames test) [] all (test_fits frames room test [] all h.0 h.1)) in
    whole_fits (in_of (all_of (finished_test room frames test))).frames (in_of (all_of (finished_test room frames test))).room (in_of (all_of (finished_test room frames test))).value all done.0 done.1
end_fits (Past (suc ahead) room frames test) all h = tt

goes_on : (answer : Result State Stop) (more : State → Result Expression Stop) (rest all : Words) → Keeps answer rest all
    → ((state : State) → StateFits state rest all → IfOk (more state) (IsWhole all)) → IfOk (go_on answer more) (IsWhole all)
goes_on (Ok state) more rest all k then = then state k
goes_on (Err stopped) more rest all k then = tt

read_fits : (rest : Words) (state : State) (all : Words) → StateFits state rest all → IfOk (read_on rest state) (IsWhole all)
unfolding read_on
read_fits [] state all h = end_fits state all h
read_fits (word ∷ rest) state all h = goes_on (step word rest state) (λ next. read_on rest next) rest all (step_keeps word rest state all h) (λ next k. read_fits rest next all k)

placed_whole : (count : ℕ) (answer : Result Expression Stop) (all : Words) (expression : Option Expression) → IfOk answer (IsWhole all) → placed count answer ≡ Ok expression
    → IsProper expression × (written expression ≡ all)
placed_whole count (Ok one) all None h e = cc
placed_whole count (Ok one) all (Some other) h e = let same : one ≡ other = cc in subst (λ x. IsProperIn 255 x [] × (written_in x ≡ all)) same h
placed_whole count (Err stopped) all expression h e = cc

pub read_is_proper : ReadIsProper
unfolding reading
read_is_proper [] None e = (tt, refl)
read_is_proper [] (Some expression) e = cc
read_is_proper (word ∷ rest) expression e =
    placed_whole (length (word ∷ rest)) (read_on (word ∷ rest) (Due 255 outermost)) (word ∷ rest) expression (read_fits (word ∷ rest) (Due 255 outermost) (word ∷ rest) (refl, refl)) e

-- A walk along a proper expression asks what its truth asks.
use Rattle.std.proofs.Common.{◌≡◌, ℕ, suc, ◌+◌, Bool, true, false, not, nat_lt, List, [], ◌∷◌, ◌++◌, length, slice_get, slice_index_or, Option, None, Some, Ok, refl, sym, ap, ◌∙◌, subst, is_some, arith, append_assoc, append-nil}
use Rattle.el_words.specs.Number.{number_of}
use Rattle.el_test.specs.declared.operators.Unary.{Unary}
use Rattle.el_test.specs.declared.operators.Unary.TheVariants.{Filled, Blank, Asked}
use Rattle.el_test.specs.declared.operators.Binary.{Binary}
use Rattle.el_test.specs.declared.operators.Prefix.{Prefix}
use Rattle.el_test.specs.declared.operators.Prefix.TheVariants.{Not, Open, On}
use Rattle.el_test.specs.declared.operators.Joiner.{Joiner}
use Rattle.el_test.specs.declared.operators.Joiner.TheVariants.{And, Or, Close}
use Rattle.el_test.specs.declared.walking.Standing.{Standing}
use Rattle.el_test.specs.declared.walking.Standing.TheVariants.{Open as Undecided, Lost, Settled}
use Rattle.el_test.specs.declared.walking.Frame.{Frame}
use Rattle.el_test.specs.declared.walking.Frame.TheVariants.{Not as NotFrame, Group}
use Rattle.el_test.specs.declared.walking.Look.{Look}
use Rattle.el_test.specs.declared.walking.Look.TheVariants.{Compared, Not as NotLook, Open as OpenLook}
use Rattle.el_test.specs.declared.asker.AskEvent.{AskEvent}
use Rattle.el_test.specs.declared.ask_answers.AskAnswer.{AskAnswer}
use Rattle.el_test.specs.declared.ask_answers.AskAnswer.TheVariants.{Yes, No, Fault}
use Rattle.el_test.specs.Operators.{binary_text, prefix_text, joiner_text, binary_named, is_numeric, holds, operands_fit}
use Rattle.el_test.specs.Expressions.{Test, compared, applied, negated, grouped, Conjunction, only, both, Expression, alone, either, written_test, written_all, written_in}
use Rattle.el_test.specs.Proper.{comparing, comparing_by, IsProperTest, AreProper, IsProperIn}
use Rattle.el_test.specs.Truth.{Verdict, True, False, Failed, Starved, Answered, flipped, known, has_bytes, truth_applied, negative, and_then, or_else, truth_test, truth_all, truth_in}
use Rattle.el_test.specs.Walking.{Walking, Walked, Act, Went, binary_at, prefix_look, binary_look, look_of, text_look, begun, opened, unnegated, joined_at, inside, walk_step, ended_of, told, acted, walk, fresh}
use Rattle.el_test.specs.WalkLaws.{OpenTells}
use Rattle.el_test.proofs.Named.{binary_is_named, prefix_is_named, joiner_is_named}
use Rattle.el_test.proofs.ProperReads.{checked_fits}

abbrev Words : Type 0
Words = List (List ℕ)

abbrev due : List Frame → Standing → Walking
due frames standing = record { frames = frames; standing = standing; ahead = 0; value = None }

abbrev past : ℕ → List Frame → Standing → Bool → Walking
past ahead frames standing value = record { frames = frames; standing = standing; ahead = ahead; value = Some value }

-- ---- steps

walk_act : (dir word : List ℕ) (rest : Words) (w : Walking) (answers : List AskAnswer) (act : Act) → walk_step word rest w ≡ act
    → walk dir (word ∷ rest) w answers ≡ acted act dir (slice_index_or rest 0 []) answers (λ next left. walk dir rest next left)
unfolding walk
walk_act dir word rest w answers act e = ap (λ a. acted a dir (slice_index_or rest 0 []) answers (λ next left. walk dir rest next left)) e

looks : (word : List ℕ) (rest : Words) (frames : List Frame) (standing : Standing) (look : Look) → look_of word (slice_get rest 0) (slice_get rest 1) (suc (length rest)) ≡ Ok look
    → walk_step word rest (due frames standing) ≡ begun (Ok look) (due frames standing) (suc (length rest))
unfolding walk_step
looks word rest frames standing look e = ap (λ l. begun l (due frames standing) (suc (length rest))) e

none_named : (found : Option Binary) (third : List ℕ) (behind : Words) → comparing_by found third behind ≡ None → found ≡ None
none_named None third behind e = refl
none_named (Some operator) third behind e = cc

none_at : (rest : Words) → comparing rest ≡ None → binary_at (slice_get rest 0) (slice_get rest 1) ≡ None
unfolding binary_at
none_at [] e = refl
none_at (second ∷ []) e = refl
none_at (second ∷ third ∷ behind) e = none_named (binary_named second) third behind e

prefix_seen : (prefix : Prefix) (rest : Words) → comparing rest ≡ None
    → look_of (prefix_text prefix) (slice_get rest 0) (slice_get rest 1) (suc (length rest)) ≡ prefix_look (Some prefix) (slice_get rest 0) (slice_get rest 1) (suc (length rest))
unfolding look_of binary_look
prefix_seen prefix rest e =
    ap (λ o. binary_look o (prefix_text prefix) (slice_get rest 0) (slice_get rest 1) (suc (length rest))) (none_at rest e)
    ∙ ap (λ p. prefix_look p (slice_get rest 0) (slice_get rest 1) (suc (length rest))) (prefix_is_named prefix)

comparison_seen : (left right : List ℕ) (operator : Binary) (rest : Words) → operands_fit operator left right ≡ true
    → look_of left (Some (binary_text operator)) (Some right) (suc (length (binary_text operator ∷ right ∷ rest))) ≡ Ok (Compared (holds operator left right))
unfolding look_of binary_look binary_at
comparison_seen left right operator rest h =
    ap (λ o. binary_look o left (Some (binary_text operator)) (Some right) (suc (length (binary_text operator ∷ right ∷ rest)))) (binary_is_named operator)
    ∙ checked_fits (is_numeric operator) (is_some (number_of left)) (is_some (number_of right)) _ _ _ h

open_step : (prefix : Prefix) (frame : Frame) (look : Look) (rest : Words) (frames : List Frame) (standing next : Standing) (room : ℕ) → suc room + length frames ≡ 255
    → look_of (prefix_text prefix) (slice_get rest 0) (slice_get rest 1) (suc (length rest)) ≡ Ok look
    → begun (Ok look) (due frames standing) (suc (length rest)) ≡ opened (nat_lt (length frames) 255) (suc (length rest)) (due (frame ∷ frames) next)
    → walk_step (prefix_text prefix) rest (due frames standing) ≡ Went (due (frame ∷ frames) next)
open_step prefix frame look rest frames standing next room count e begins =
    let free : nat_lt (length frames) 255 ≡ true = grind (arith, count) in
    looks (prefix_text prefix) rest frames standing look e ∙ begins ∙ ap (λ b. opened b (suc (length rest)) (due (frame ∷ frames) next)) free

-- ---- going on

abbrev before_all : List AskEvent → Walked → Walked
before_all asks w = record { asks = asks ++ w.asks; left = w.left; end = w.end }

abbrev resume_by : Verdict → List AskEvent → List AskAnswer → (Bool → List AskAnswer → Walked) → Walked
resume_by True asks left more = before_all asks (more true left)
resume_by False asks left more = before_all asks (more false left)
resume_by Failed asks left more = record { asks = asks; left = left; end = Ok Failed }
resume_by Starved asks left more = record { asks = asks; left = left; end = Ok Starved }

abbrev resumed : Answered → (Bool → List AskAnswer → Walked) → Walked
resumed a more = resume_by a.verdict a.asks a.left more

-- the other way to go on, where both go on alike
resumed_alike : (verdict : Verdict) (asks : List AskEvent) (left : List AskAnswer) (one other : Bool → List AskAnswer → Walked) → ((value : Bool) → one value left ≡ other value left)
    → resume_by verdict asks left one ≡ resume_by verdict asks left other
resumed_alike True asks left one other h = ap (before_all asks) (h true)
resumed_alike False asks left one other h = ap (before_all asks) (h false)
resumed_alike Failed asks left one other h = refl
resumed_alike Starved asks left one other h = refl

resumed_flipped : (verdict : Verdict) (asks : List AskEvent) (left : List AskAnswer) (more : Bool → List AskAnswer → Walked) → resume_by verdict asks left (λ value l. more (not value) l) ≡ resume_by (flipped verdict) asks left more
resumed_flipped True asks left more = refl
resumed_flipped False asks left more = refl
resumed_flipped Failed asks left more = refl
resumed_flipped Starved asks left more = refl

resumed_joined : (verdict : Verdict) (asks also : List AskEvent) (left : List AskAnswer) (more : Bool → List AskAnswer → Walked)
    → before_all asks (resume_by verdict also left more) ≡ resume_by verdict (asks ++ also) left more
resumed_joined True asks also left more = ap (λ l. record { asks = l; left = (more true left).left; end = (more true left).end }) (sym (append_assoc asks also (more true left).asks))
resumed_joined False asks also left more = ap (λ l. record { asks = l; left = (more false left).left; end = (more false left).end }) (sym (append_assoc asks also (more false left).asks))
resumed_joined Failed asks also left more = refl
resumed_joined Starved asks also left more = refl

resumed_and : (verdict : Verdict) (asks : List AskEvent) (left : List AskAnswer) (next : List AskAnswer → Answered) (first more : Bool → List AskAnswer → Walked)
    → first true left ≡ resumed (next left) more → first false left ≡ more false left
    → resume_by verdict asks left first ≡ resumed (and_then verdict (record { asks = asks; left = left; verdict = verdict }) next) more
resumed_and True asks left next first more going stays = ap (before_all asks) going ∙ resumed_joined (next left).verdict asks (next left).asks (next left).left more
resumed_and False asks left next first more going stays = ap (before_all asks) stays
resumed_and Failed asks left next first more going stays = refl
resumed_and Starved asks left next first more going stays = refl

resumed_or : (verdict : Verdict) (asks : List AskEvent) (left : List AskAnswer) (next : List AskAnswer → Answered) (first more : Bool → List AskAnswer → Walked)
    → first false left ≡ resumed (next left) more → first true left ≡ more true left
    → resume_by verdict asks left first ≡ resumed (or_else verdict (record { asks = asks; left = left; verdict = verdict }) next) more
resumed_or True asks left next first more going stays = ap (before_all asks) stays
resumed_or False asks left next first more going stays = ap (before_all asks) going ∙ resumed_joined (next left).verdict asks (next left).asks (next left).left more
resumed_or Failed asks left next first more going stays = refl
resumed_or Starved asks left next first more going stays = refl

-- ---- what stands behind

-- no `!` waits
abbrev IsBase : List Frame → Type 0
IsBase (NotFrame ∷ frames) = ⊥
IsBase _ = Unit {0}

base_stays : (frames : List Frame) (value : Bool) → IsBase frames → unnegated frames value ≡ record { frames = frames; value = value }
base_stays [] value b = refl
base_stays (NotFrame ∷ frames) value b = absurd b
base_stays (Group standing ∷ frames) value b = refl

-- the end of an expression; that, or the end of a conjunction
data Closing : Words → Type 0 where
  over : Closing []
  close : (rest : Words) → Closing (joiner_text Close ∷ rest)

data Stopping : Words → Type 0 where
  closing : (rest : Words) → Closing rest → Stopping rest
  another : (rest : Words) → Stopping (joiner_text Or ∷ rest)

joins : (joiner : Joiner) (rest : Words) (frames : List Frame) (standing : Standing) (value : Bool) → IsBase frames
    → walk_step (joiner_text joiner) rest (past 0 frames standing value) ≡ joined_at (Some joiner) (record { frames = frames; value = value }) standing (suc (length rest))
unfolding walk_step
joins joiner rest frames standing value b =
    ap (λ j. joined_at j (unnegated frames value) standing (suc (length rest))) (joiner_is_named joiner) ∙ ap (λ u. joined_at (Some joiner) u standing (suc (length rest))) (base_stays frames value b)

lost_ends : (frames : List Frame) (value : Bool) → IsBase frames → ended_of (past 0 frames Lost value) ≡ ended_of (past 0 frames Undecided false)
unfolding ended_of
lost_ends [] value b = refl
lost_ends (NotFrame ∷ frames) value b = absurd b
lost_ends (Group standing ∷ frames) value b = refl

settled_ends : (frames : List Frame) (value : Bool) → IsBase frames → ended_of (past 0 frames Settled value) ≡ ended_of (past 0 frames Undecided true)
unfolding ended_of
settled_ends [] value b = refl
settled_ends (NotFrame ∷ frames) value b = absurd b
settled_ends (Group standing ∷ frames) value b = refl

walk_over : (dir : List ℕ) (one other : Walking) (answers : List AskAnswer) → ended_of one ≡ ended_of other → walk dir [] one answers ≡ walk dir [] other answers
unfolding walk
walk_over dir one other answers e = ap (λ r. record { asks = []; left = answers; end = told r }) e

walk_alike : (dir word : List ℕ) (rest : Words) (one other : Walking) (answers : List AskAnswer) → walk_step word rest one ≡ walk_step word rest other → walk dir (word ∷ rest) one answers ≡ walk dir (word ∷ rest) other answers
walk_alike dir word rest one other answers e = walk_act dir word rest one answers (walk_step word rest other) e ∙ sym (walk_act dir word rest other answers (walk_step word rest other) refl)

lost_alike : (dir : List ℕ) (rest : Words) (frames : List Frame) (value : Bool) (answers : List AskAnswer) → IsBase frames → Stopping rest → walk dir rest (past 0 frames Lost value) answers ≡ walk dir rest (past 0 frames Undecided false) answers
unfolding joined_at
lost_alike dir _ frames value answers b (closing _ over) = walk_over dir (past 0 frames Lost value) (past 0 frames Undecided false) answers (lost_ends frames value b)
lost_alike dir _ frames value answers b (closing _ (close rest)) =
    walk_alike dir (joiner_text Close) rest (past 0 frames Lost value) (past 0 frames Undecided false) answers (joins Close rest frames Lost value b ∙ sym (joins Close rest frames Undecided false b))
lost_alike dir _ frames value answers b (another rest) =
    walk_alike dir (joiner_text Or) rest (past 0 frames Lost value) (past 0 frames Undecided false) answers (joins Or rest frames Lost value b ∙ sym (joins Or rest frames Undecided false b))

settled_alike : (dir : List ℕ) (rest : Words) (frames : List Frame) (value : Bool) (answers : List AskAnswer) → IsBase frames → Closing rest → walk dir rest (past 0 frames Settled value) answers ≡ walk dir rest (past 0 frames Undecided true) answers
unfolding joined_at
settled_alike dir _ frames value answers b over = walk_over dir (past 0 frames Settled value) (past 0 frames Undecided true) answers (settled_ends frames value b)
settled_alike dir _ frames value answers b (close rest) =
    walk_alike dir (joiner_text Close) rest (past 0 frames Settled value) (past 0 frames Undecided true) answers (joins Close rest frames Settled value b ∙ sym (joins Close rest frames Undecided true b))

turned_alike : (dir : List ℕ) (rest : Words) (frames : List Frame) (standing : Standing) (value : Bool) (answers : List AskAnswer)
    → walk dir rest (past 0 (NotFrame ∷ frames) standing value) answers ≡ walk dir rest (past 0 frames standing (not value)) answers
unfolding walk walk_step ended_of
turned_alike dir [] frames standing value answers = refl
turned_alike dir (word ∷ rest) frames standing value answers = refl

-- ---- how a test, a conjunction and an expression are passed

-- decided: whatever its value is, nothing is asked; else it is asked
abbrev Passes : Standing → (dir : List ℕ) → List Frame → (rest : Words) → List AskAnswer → Answered → Walked → Type 0
Passes Undecided dir frames rest answers a w = w ≡ resumed a (λ value left. walk dir rest (past 0 frames Undecided value) left)
Passes standing dir frames rest answers a w = (value : Bool) × (w ≡ walk dir rest (past 0 frames standing value) answers)

known_passes : (standing : Standing) (dir : List ℕ) (frames : List Frame) (rest : Words) (answers : List AskAnswer) (value : Bool) (w : Walked) → w ≡ walk dir rest (past 0 frames standing value) answers
    → Passes standing dir frames rest answers (known value answers) w
known_passes Undecided dir frames rest answers true w e = e
known_passes Undecided dir frames rest answers false w e = e
known_passes Lost dir frames rest answers value w e = (value, e)
known_passes Settled dir frames rest answers value w e = (value, e)

ahead_one : (dir text : List ℕ) (rest : Words) (frames : List Frame) (standing : Standing) (value : Bool) (answers : List AskAnswer)
    → walk dir (text ∷ rest) (past 1 frames standing value) answers ≡ walk dir rest (past 0 frames standing value) answers
unfolding walk walk_step
ahead_one dir text rest frames standing value answers = refl

applied_passes : (standing : Standing) (operator : Unary) (text dir : List ℕ) (frames : List Frame) (rest : Words) (answers : List AskAnswer)
    → Passes standing dir frames rest answers (truth_applied dir operator text answers)
    (acted (begun (Ok (text_look operator text)) (due frames standing) (suc (length (text ∷ rest)))) dir text answers (λ next left. walk dir (text ∷ rest) next left))
unfolding begun
applied_passes standing Filled text dir frames rest answers = known_passes standing dir frames rest answers (has_bytes text) _ (ahead_one dir text rest frames standing (has_bytes text) answers)
applied_passes standing Blank text dir frames rest answers = known_passes standing dir frames rest answers (not (has_bytes text)) _ (ahead_one dir text rest frames standing (not (has_bytes text)) answers)
applied_passes Lost (Asked question) text dir frames rest answers = (false, ahead_one dir text rest frames Lost false answers)
applied_passes Settled (Asked question) text dir frames rest answers = (false, ahead_one dir text rest frames Settled false answers)
applied_passes Undecided (Asked question) text dir frames rest [] = refl
applied_passes Undecided (Asked question) text dir frames rest (Yes ∷ answers) = ap (λ w. before_all (record { dir = dir; path = text; question = question; answer = Ok true } ∷ []) w) (ahead_one dir text rest frames Undecided true answers)
applied_passes Undecided (Asked question) text dir frames rest (No ∷ answers) = ap (λ w. before_all (record { dir = dir; path = text; question = question; answer = Ok false } ∷ []) w) (ahead_one dir text rest frames Undecided false answers)
applied_passes Undecided (Asked question) text dir frames rest (Fault ∷ answers) = refl

negated_passes : (standing : Standing) (dir : List ℕ) (frames : List Frame) (rest : Words) (answers : List AskAnswer) (a : Answered) (w : Walked)
    → Passes standing dir (NotFrame ∷ frames) rest answers a w → Passes standing dir frames rest answers (negative a) w
negated_passes Undecided dir frames rest answers a w e =
    e ∙ resumed_alike a.verdict a.asks a.left _ _ (λ value. turned_alike dir rest frames Undecided value a.left)
    ∙ resumed_flipped a.verdict a.asks a.left (λ value left. walk dir rest (past 0 frames Undecided value) left)
negated_passes Lost dir frames rest answers a w (value, e) = (not value, e ∙ turned_alike dir rest frames Lost value answers)
negated_passes Settled dir frames rest answers a w (value, e) = (not value, e ∙ turned_alike dir rest frames Settled value answers)

closes : (dir : List ℕ) (rest : Words) (frames : List Frame) (outer standing : Standing) (value : Bool) (answers : List AskAnswer) (to : Bool)
    → joined_at (Some Close) (record { frames = Group outer ∷ frames; value = value }) standing (suc (length rest)) ≡ Went (past 0 frames outer to)
    → walk dir (joiner_text Close ∷ rest) (past 0 (Group outer ∷ frames) standing value) answers ≡ walk dir rest (past 0 frames outer to) answers
closes dir rest frames outer standing value answers to e = walk_act dir (joiner_text Close) rest (past 0 (Group outer ∷ frames) standing value) answers (Went (past 0 frames outer to)) (joins Close rest (Group outer ∷ frames) standing value tt ∙ e)

grouped_passes : (standing : Standing) (dir : List ℕ) (frames : List Frame) (rest : Words) (answers : List AskAnswer) (a : Answered) (w : Walked)
    → Passes (inside standing) dir (Group standing ∷ frames) (joiner_text Close ∷ rest) answers a w → Passes standing dir frames rest answers a w
unfolding joined_at
grouped_passes Undecided dir frames rest answers a w e = e ∙ resumed_alike a.verdict a.asks a.left _ _ (λ value. closes dir rest frames Undecided Undecided value a.left value refl)
grouped_passes Lost dir frames rest answers a w (value, e) = (true, e ∙ closes dir rest frames Lost Settled value answers true refl)
grouped_passes Settled dir frames rest answers a w (value, e) = (true, e ∙ closes dir rest frames Settled Settled value answers true refl)

joins_on : (joiner : Joiner) (dir : List ℕ) (rest : Words) (frames : List Frame) (standing next : Standing) (value : Bool) (answers : List AskAnswer) → IsBase frames
    → joined_at (Some joiner) (record { frames = frames; value = value }) standing (suc (length rest)) ≡ Went (due frames next)
    → walk dir (joiner_text joiner ∷ rest) (past 0 frames standing value) answers ≡ walk dir rest (due frames next) answers
joins_on joiner dir rest frames standing next value answers b e = walk_act dir (joiner_text joiner) rest (past 0 frames standing value) answers (Went (due frames next)) (joins joiner rest frames standing value b ∙ e)

both_passes : (standing : Standing) (dir : List ℕ) (frames : List Frame) (more rest : Words) (answers : List AskAnswer) (a : Answered) (next : List AskAnswer → Answered) (w : Walked) → IsBase frames → Stopping rest
    → Passes standing dir frames (joiner_text And ∷ more) answers a w
    → ((on : Standing) (left : List AskAnswer) → Passes on dir frames rest left (next left) (walk dir more (due frames on) left))
    → Passes standing dir frames rest answers (and_then a.verdict a next) w
unfolding joined_at
both_passes Undecided dir frames more rest answers a next w b stops e h =
    e ∙ resumed_and a.verdict a.asks a.left next (λ value left. walk dir (joiner_text And ∷ more) (past 0 frames Undecided value) left) (λ value left. walk dir rest (past 0 frames Undecided value) left)
    (joins_on And dir more frames Undecided Undecided true a.left b refl ∙ h Undecided a.left)
    (joins_on And dir more frames Undecided Lost false a.left b refl ∙ (h Lost a.left).1 ∙ lost_alike dir rest frames (h Lost a.left).0 a.left b stops)
both_passes Lost dir frames more rest answers a next w b stops e h = ((h Lost answers).0, e.1 ∙ joins_on And dir more frames Lost Lost e.0 answers b refl ∙ (h Lost answers).1)
both_passes Settled dir frames more rest answers a next w b stops e h = ((h Settled answers).0, e.1 ∙ joins_on And dir more frames Settled Settled e.0 answers b refl ∙ (h Settled answers).1)

abbrev IsWide : Standing → Type 0
IsWide Lost = ⊥
IsWide _ = Unit {0}

either_passes : (standing : Standing) (dir : List ℕ) (frames : List Frame) (more rest : Words) (answers : List AskAnswer) (a : Answered) (next : List AskAnswer → Answered) (w : Walked) → IsBase frames → Closing rest → IsWide standing
    → Passes standing dir frames (joiner_text Or ∷ more) answers a w
    → ((on : Standing) (left : List AskAnswer) → IsWide on → Passes on dir frames rest left (next left) (walk dir more (due frames on) left))
    → Passes standing dir frames rest answers (or_else a.verdict a next) w
unfolding joined_at
either_passes Undecided dir frames more rest answers a next w b ends wide e h =
    e ∙ resumed_or a.verdict a.asks a.left next (λ value left. walk dir (joiner_text Or ∷ more) (past 0 frames Undecided value) left) (λ value left. walk dir rest (past 0 frames Undecided value) left)
    (joins_on Or dir more frames Undecided Undecided false a.left b refl ∙ h Undecided a.left tt)
    (joins_on Or dir more frames Undecided Settled true a.left b refl ∙ (h Settled a.left tt).1 ∙ settled_alike dir rest frames (h Settled a.left tt).0 a.left b ends)
either_passes Lost dir frames more rest answers a next w b ends wide e h = absurd wide
either_passes Settled dir frames more rest answers a next w b ends wide e h = ((h Settled answers tt).0, e.1 ∙ joins_on Or dir more frames Settled Settled e.0 answers b refl ∙ (h Settled answers tt).1)

moved : (standing : Standing) (dir : List ℕ) (frames : List Frame) (rest : Words) (answers : List AskAnswer) (a : Answered) (w to : Walked) → to ≡ w → Passes standing dir frames rest answers a w → Passes standing dir frames rest answers a to
moved standing dir frames rest answers a w to e p = subst (Passes standing dir frames rest answers a) (sym e) p

wide_inside : (standing : Standing) → IsWide (inside standing)
wide_inside Undecided = tt
wide_inside Lost = tt
wide_inside Settled = tt

ahead_two : (dir one two : List ℕ) (rest : Words) (frames : List Frame) (standing : Standing) (value : Bool) (answers : List AskAnswer)
    → walk dir (one ∷ two ∷ rest) (past 2 frames standing value) answers ≡ walk dir rest (past 0 frames standing value) answers
unfolding walk walk_step
ahead_two dir one two rest frames standing value answers = refl

compared_walk : (left right : List ℕ) (operator : Binary) (dir : List ℕ) (rest : Words) (frames : List Frame) (standing : Standing) (answers : List AskAnswer) → operands_fit operator left right ≡ true
    → walk dir (left ∷ binary_text operator ∷ right ∷ rest) (due frames standing) answers ≡ walk dir rest (past 0 frames standing (holds operator left right)) answers
unfolding begun
compared_walk left right operator dir rest frames standing answers h =
    walk_act dir left (binary_text operator ∷ right ∷ rest) (due frames standing) answers (Went (past 2 frames standing (holds operator left right)))
    (looks left (binary_text operator ∷ right ∷ rest) frames standing (Compared (holds operator left right)) (comparison_seen left right operator rest h))
    ∙ ahead_two dir (binary_text operator) right rest frames standing (holds operator left right) answers

looked_walk : (operator : Unary) (text dir : List ℕ) (rest : Words) (frames : List Frame) (standing : Standing) (answers : List AskAnswer) → comparing (text ∷ rest) ≡ None
    → walk dir (prefix_text (On operator) ∷ text ∷ rest) (due frames standing) answers
    ≡ acted (begun (Ok (text_look operator text)) (due frames standing) (suc (length (text ∷ rest)))) dir text answers (λ next left. walk dir (text ∷ rest) next left)
unfolding prefix_look
looked_walk operator text dir rest frames standing answers h =
    walk_act dir (prefix_text (On operator)) (text ∷ rest) (due frames standing) answers _ (looks (prefix_text (On operator)) (text ∷ rest) frames standing (text_look operator text) (prefix_seen (On operator) (text ∷ rest) h))

not_walk : (dir : List ℕ) (rest : Words) (frames : List Frame) (standing : Standing) (answers : List AskAnswer) (room : ℕ) → suc room + length frames ≡ 255 → comparing rest ≡ None
    → walk dir (prefix_text Not ∷ rest) (due frames standing) answers ≡ walk dir rest (due (NotFrame ∷ frames) standing) answers
unfolding prefix_look begun
not_walk dir rest frames standing answers room count h =
    walk_act dir (prefix_text Not) rest (due frames standing) answers (Went (due (NotFrame ∷ frames) standing)) (open_step Not NotFrame NotLook rest frames standing standing room count (prefix_seen Not rest h) refl)

group_walk : (dir : List ℕ) (rest : Words) (frames : List Frame) (standing : Standing) (answers : List AskAnswer) (room : ℕ) → suc room + length frames ≡ 255 → comparing rest ≡ None
    → walk dir (prefix_text Open ∷ rest) (due frames standing) answers ≡ walk dir rest (due (Group standing ∷ frames) (inside standing)) answers
unfolding prefix_look begun
group_walk dir rest frames standing answers room count h =
    walk_act dir (prefix_text Open) rest (due frames standing) answers (Went (due (Group standing ∷ frames) (inside standing)))
    (open_step Open (Group standing) OpenLook rest frames standing (inside standing) room count (prefix_seen Open rest h) refl)

deeper : (room : ℕ) (frame : Frame) (frames : List Frame) → suc room + length frames ≡ 255 → room + length (frame ∷ frames) ≡ 255
deeper room frame frames count = omega (arith, count)

mutual
  test_passes : (test : Test) (standing : Standing) (dir : List ℕ) (frames : List Frame) (rest : Words) (answers : List AskAnswer) (room : ℕ) → room + length frames ≡ 255 → IsProperTest room test rest
      → Passes standing dir frames rest answers (truth_test test dir answers) (walk dir (written_test test ++ rest) (due frames standing) answers)
  test_passes (compared left operator right) standing dir frames rest answers room count h =
      known_passes standing dir frames rest answers (holds operator left right) _ (compared_walk left right operator dir rest frames standing answers h)
  test_passes (applied operator text) standing dir frames rest answers room count h =
      moved standing dir frames rest answers (truth_applied dir operator text answers) _ _ (looked_walk operator text dir rest frames standing answers h) (applied_passes standing operator text dir frames rest answers)
  test_passes (negated test) standing dir frames rest answers Prim.Native.Nat.zero count h = absurd h
  test_passes (negated test) standing dir frames rest answers (suc room) count h =
      moved standing dir frames rest answers (negative (truth_test test dir answers)) _ _ (not_walk dir (written_test test ++ rest) frames standing answers room count h.0)
      (negated_passes standing dir frames rest answers (truth_test test dir answers) _ (test_passes test standing dir (NotFrame ∷ frames) rest answers room (deeper room NotFrame frames count) h.1))
  test_passes (grouped expression) standing dir frames rest answers Prim.Native.Nat.zero count h = absurd h
  test_passes (grouped expression) standing dir frames rest answers (suc room) count h =
      moved standing dir frames rest answers (truth_in expression dir answers) _ _
      (ap (λ words. walk dir (prefix_text Open ∷ words) (due frames standing) answers) (append_assoc (written_in expression) (joiner_text Close ∷ []) rest)
      ∙ group_walk dir (written_in expression ++ joiner_text Close ∷ rest) frames standing answers room count h.0)
      (grouped_passes standing dir frames rest answers (truth_in expression dir answers) _
      (in_passes expression (inside standing) dir (Group standing ∷ frames) (joiner_text Close ∷ rest) answers room (deeper room (Group standing) frames count) tt (close rest) (wide_inside standing) h.1))

  all_passes : (conjunction : Conjunction) (standing : Standing) (dir : List ℕ) (frames : List Frame) (rest : Words) (answers : List AskAnswer) (room : ℕ) → room + length frames ≡ 255 → IsBase frames → Stopping rest
      → AreProper room conjunction rest → Passes standing dir frames rest answers (truth_all conjunction dir answers) (walk dir (written_all conjunction ++ rest) (due frames standing) answers)
  all_passes (only test) standing dir frames rest answers room count b stops h = test_passes test standing dir frames rest answers room count h
  all_passes (both test more) standing dir frames rest answers room count b stops h =
      moved standing dir frames rest answers (truth_all (both test more) dir answers) _ _ (ap (λ words. walk dir words (due frames standing) answers) (append_assoc (written_test test) (joiner_text And ∷ written_all more) rest))
      (both_passes standing dir frames (written_all more ++ rest) rest answers (truth_test test dir answers) (λ left. truth_all more dir left) _ b stops
      (test_passes test standing dir frames (joiner_text And ∷ (written_all more ++ rest)) answers room count h.0)
      (λ on left. all_passes more on dir frames rest left room count b stops h.1))

  in_passes : (expression : Expression) (standing : Standing) (dir : List ℕ) (frames : List Frame) (rest : Words) (answers : List AskAnswer) (room : ℕ) → room + length frames ≡ 255 → IsBase frames → Closing rest → IsWide standing
      → IsProperIn room expression rest → Passes standing dir frames rest answers (truth_in expression dir answers) (walk dir (written_in expression ++ rest) (due frames standing) answers)
  in_passes (alone conjunction) standing dir frames rest answers room count b ends wide h = all_passes conjunction standing dir frames rest answers room count b (closing rest ends) h
  in_passes (either conjunction more) standing dir frames rest answers room count b ends wide h =
      moved standing dir frames rest answers (truth_in (either conjunction more) dir answers) _ _ (ap (λ words. walk dir words (due frames standing) answers) (append_assoc (written_all conjunction) (joiner_text Or ∷ written_in more) rest))
      (either_passes standing dir frames (written_in more ++ rest) rest answers (truth_all conjunction dir answers) (λ left. truth_in more dir left) _ b ends wide
      (all_passes conjunction standing dir frames (joiner_text Or ∷ (written_in more ++ rest)) answers room count b (another (written_in more ++ rest)) h.0)
      (λ on left w. in_passes more on dir frames rest left room count b ends w h.1))

at_last : (dir : List ℕ) (verdict : Verdict) (asks : List AskEvent) (left : List AskAnswer)
    → resume_by verdict asks left (λ value more. walk dir [] (past 0 [] Undecided value) more) ≡ record { asks = asks; left = left; end = Ok verdict }
unfolding walk ended_of
at_last dir True asks left = ap (λ l. record { asks = l; left = left; end = Ok True }) (append-nil asks)
at_last dir False asks left = ap (λ l. record { asks = l; left = left; end = Ok False }) (append-nil asks)
at_last dir Failed asks left = refl
at_last dir Starved asks left = refl

pub open_tells : OpenTells
open_tells dir expression answers h =
    ap (λ words. walk dir words (fresh Undecided) answers) (sym (append-nil (written_in expression)))
    ∙ in_passes expression Undecided dir [] [] answers 255 refl tt over tt h
    ∙ at_last dir (truth_in expression dir answers).verdict (truth_in expression dir answers).asks (truth_in expression dir answers).left

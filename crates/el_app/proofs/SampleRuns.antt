-- The run of a sample, as it is played, ends with status 0, and its units and events are counted by the lines.
use Rattle.el_room.proofs.Vocabulary.{spelled, Found, and_then, made, State, End, Task, Left}
use Rattle.std.proofs.Common.{◌≡◌, ℕ, zero, suc, ◌+◌, ◌*◌, ◌/◌, ◌%◌, ◌^◌, ◌<◌, ◌≤◌, ◌==◌, Bool, true, false, if◌then◌else◌, List, [], Some, option_map, refl, sym, ap, ◌∙◌, codes, arith, eqb-true}
use Rattle.std.specs.FinMap as map
use Rattle.el_world.specs.States as end
use Rattle.el_machine.specs.Flat.{flat_run}
use Rattle.el_tree.specs.Trees.{Tree, written}
use Rattle.el_check.specs.declared.params.Params.TheVariants.{Leave}
use Rattle.el_meaning.specs.Meaning.{whole_meaning}
use Rattle.el_meaning.proofs.Whole.{run-is-meaning}
use Rattle.el_app.specs.Sample.{sample}
use Rattle.el_app.specs.SampleTrees.{lines_tree}
use Rattle.el_app.specs.Played.{first_numbers, Played, played}
use Rattle.el_app.specs.Tallies.{tally_line, code_of, line_of}
use Rattle.el_app.specs.Elcheck.{script_run, run_played, line_told}
use Rattle.el_app.specs.First.{first_state}
use Rattle.el_app.specs.SampleRuns.{SamplesEnd, SamplesAreTold}
use Rattle.el_app.proofs.Meanings.{accepted-words}
use Rattle.el_app.proofs.PlayedAlike.{played-same}
use Rattle.el_app.proofs.SampleTexts.{of_four}
use Rattle.el_app.proofs.SampleTrees.{samples-are-accepted, samples-are-run}
use Rattle.el_app.proofs.SampleLines.{Comes, counts, all-lines}

-- ---- how many lines are of a kind

rise : (a k o b r : ℕ) → a + o ≡ b → b + k ≡ r → a + (k + o) ≡ r
rise a k o b r one rest = omega (arith, one, rest)

plus-none : (n : ℕ) → n + 0 ≡ n
plus-none n = omega arith

on-from : (i n : ℕ) → i + 1 + n ≡ i + suc n
on-from i n = omega arith

-- what rises by so much at each line
counts-rise : (first second third fourth : ℕ) (at : ℕ → ℕ) → ((i : ℕ) → at i + of_four i first second third fourth ≡ at (i + 1)) → (i n : ℕ) → at i + counts first second third fourth i n ≡ at (i + n)
counts-rise first second third fourth at rises i zero = plus-none (at i) ∙ ap at (sym (plus-none i))
counts-rise first second third fourth at rises i (suc n) =
    rise (at i) (counts first second third fourth (i + 1) n) (of_four i first second third fourth) (at (i + 1)) (at (i + suc n)) (rises i) (counts-rise first second third fourth at rises (i + 1) n ∙ ap at (on-from i n))

-- the four kinds, by the remainder
module _ (i : ℕ) where
  by-kind : (P : ℕ → ℕ → ℕ → ℕ → ℕ → Type 0)
      → ((a b c d : ℕ) → i % 4 ≡ 1 → P a b c d a) → ((a b c d : ℕ) → i % 4 ≡ 2 → P a b c d b) → ((a b c d : ℕ) → i % 4 ≡ 3 → P a b c d c) → ((a b c d : ℕ) → i % 4 ≡ 0 → P a b c d d)
      → (a b c d : ℕ) → P a b c d (of_four i a b c d)
  by-kind P first second third fourth a b c d = by (i % 4 == 1) refl (i % 4 == 2) refl (i % 4 == 3) refl
    where
      none : (i % 4 == 1) ≡ false → (i % 4 == 2) ≡ false → (i % 4 == 3) ≡ false → i % 4 ≡ 0
      none one two three = grind (arith, one, two, three)

      by : (one : Bool) → (i % 4 == 1) ≡ one → (two : Bool) → (i % 4 == 2) ≡ two → (three : Bool) → (i % 4 == 3) ≡ three → P a b c d (if one then a else (if two then b else (if three then c else d)))
      by true is two _ three _ = first a b c d (eqb-true (i % 4) 1 is)
      by false _ true is three _ = second a b c d (eqb-true (i % 4) 2 is)
      by false _ false _ true is = third a b c d (eqb-true (i % 4) 3 is)
      by false one false two false three = fourth a b c d (none one two three)

-- processes are started on all lines but the 1st, the 5th and so on
starts-rise : (i : ℕ) → (i + 1) / 4 + i / 4 + (i + 3) / 4 + of_four i 0 1 1 1 ≡ (i + 1 + 1) / 4 + (i + 1) / 4 + (i + 1 + 3) / 4
starts-rise i = by-kind i (λ a b c d n. a ≡ 0 → b ≡ 1 → c ≡ 1 → d ≡ 1 → (i + 1) / 4 + i / 4 + (i + 3) / 4 + n ≡ (i + 1 + 1) / 4 + (i + 1) / 4 + (i + 1 + 3) / 4)
    (λ a b c d is p q r s. omega (arith, is, p)) (λ a b c d is p q r s. omega (arith, is, q)) (λ a b c d is p q r s. omega (arith, is, r)) (λ a b c d is p q r s. omega (arith, is, s))
    0 1 1 1 refl refl refl refl

waits-rise : (i : ℕ) → (i + 1) / 4 + (i + 3) / 4 + of_four i 0 1 0 1 ≡ (i + 1 + 1) / 4 + (i + 1 + 3) / 4
waits-rise i = by-kind i (λ a b c d n. a ≡ 0 → b ≡ 1 → c ≡ 0 → d ≡ 1 → (i + 1) / 4 + (i + 3) / 4 + n ≡ (i + 1 + 1) / 4 + (i + 1 + 3) / 4)
    (λ a b c d is p q r s. omega (arith, is, p)) (λ a b c d is p q r s. omega (arith, is, q)) (λ a b c d is p q r s. omega (arith, is, r)) (λ a b c d is p q r s. omega (arith, is, s))
    0 1 0 1 refl refl refl refl

pipes-rise : (i : ℕ) → i / 4 + of_four i 0 0 1 0 ≡ (i + 1) / 4
pipes-rise i = by-kind i (λ a b c d n. a ≡ 0 → b ≡ 0 → c ≡ 1 → d ≡ 0 → i / 4 + n ≡ (i + 1) / 4)
    (λ a b c d is p q r s. omega (arith, is, p)) (λ a b c d is p q r s. omega (arith, is, q)) (λ a b c d is p q r s. omega (arith, is, r)) (λ a b c d is p q r s. omega (arith, is, s))
    0 0 1 0 refl refl refl refl

starts-sum : (n c : ℕ) → (1 + 1) / 4 + 1 / 4 + (1 + 3) / 4 + c ≡ (1 + n + 1) / 4 + (1 + n) / 4 + (1 + n + 3) / 4 → c + 1 ≡ (n + 2) / 4 + (n + 1) / 4 + n / 4 + 1
starts-sum n c is = omega (arith, is)

waits-sum : (n c : ℕ) → (1 + 1) / 4 + (1 + 3) / 4 + c ≡ (1 + n + 1) / 4 + (1 + n + 3) / 4 → c + 1 ≡ (n + 2) / 4 + n / 4 + 1
waits-sum n c is = omega (arith, is)

pipes-sum : (n c : ℕ) → 1 / 4 + c ≡ (1 + n) / 4 → c ≡ (n + 1) / 4
pipes-sum n c is = omega (arith, is)

starts-counted : (n : ℕ) → counts 0 1 1 1 1 n + 1 ≡ (n + 2) / 4 + (n + 1) / 4 + n / 4 + 1
starts-counted n = starts-sum n (counts 0 1 1 1 1 n) (counts-rise 0 1 1 1 (λ i. (i + 1) / 4 + i / 4 + (i + 3) / 4) starts-rise 1 n)

waits-counted : (n : ℕ) → counts 0 1 0 1 1 n + 1 ≡ (n + 2) / 4 + n / 4 + 1
waits-counted n = waits-sum n (counts 0 1 0 1 1 n) (counts-rise 0 1 0 1 (λ i. (i + 1) / 4 + (i + 3) / 4) waits-rise 1 n)

pipes-counted : (n : ℕ) → counts 0 0 1 0 1 n ≡ (n + 1) / 4
pipes-counted n = pipes-sum n (counts 0 0 1 0 1 n) (counts-rise 0 0 1 0 (λ i. i / 4) pipes-rise 1 n)

twice : (n m : ℕ) → n ≡ m → n + n + 0 ≡ 2 * m
twice n m is = omega (arith, is)

-- ---- the run

abbrev on : Left → Task ⊥
on left = flat_run left.words left.state

line-told : (run : Played End ⊥) (units starts waits pipes closes : ℕ) → Comes run units starts waits pipes closes → line_of run ≡ Some (tally_line units (record { starts = starts; waits = waits; pipes = pipes; closes = closes }) 0)
line-told run units starts waits pipes closes h =
    λ i. option_map (tally_line (h.units_are i) (record { starts = h.starts_are i; waits = h.waits_are i; pipes = h.pipes_are i; closes = h.closes_are i })) (code_of (h.ends_so.1 i))

module _ (n : ℕ) (few : n ≤ 4000) where
  abbrev state : State
  state = first_state map.empty (codes "/")

  abbrev tree : Tree
  tree = lines_tree 1 n

  comes : Comes (played (whole_meaning tree [] state) first_numbers) (n + 1) (counts 0 1 1 1 1 n + 1) (counts 0 1 0 1 1 n + 1) (counts 0 0 1 0 1 n) (counts 0 0 1 0 1 n + counts 0 0 1 0 1 n + 0)
  unfolding whole_meaning
  comes = (all-lines on (codes "/") 1 n (omega (arith, few))).come [] map.empty 0 [] first_numbers false refl (omega arith) (omega arith)

  run-is : script_run (sample n) state ≡ flat_run (spelled 0 (written tree)) state
  unfolding script_run and_then
  run-is = ap (λ task. and_then task (λ words. flat_run words state)) (accepted-words state Leave (sample n) tree (samples-are-accepted n few))

  same : (units : ℕ) (found : List Found) → units < 2 ^ 64 → made (script_run (sample n) state) units found ≡ made (whole_meaning tree [] state) units found
  same units found small = ap (λ task. made task units found) run-is ∙ run-is-meaning tree [] [] state units found (samples-are-accepted n few).accepted tt small

  played-is : run_played (sample n) ≡ played (whole_meaning tree [] state) first_numbers
  unfolding run_played
  played-is =
      let units = comes.units_are in
      played-same (script_run (sample n) state) (whole_meaning tree [] state) first_numbers (end.Status 0 comes.ends_so.0) same comes.ends_so.1 (omega (arith, units, few))

pub samples-end : SamplesEnd
samples-end n few =
    let starts = starts-counted n in
    let waits = waits-counted n in
    let pipes = pipes-counted n in
    let closes : counts 0 0 1 0 1 n + counts 0 0 1 0 1 n + 0 ≡ 2 * ((n + 1) / 4) = twice (counts 0 0 1 0 1 n) ((n + 1) / 4) pipes in
    ap line_of (played-is n few)
    ∙ line-told _ _ _ _ _ _ (comes n few)
    ∙ (λ i. Some (tally_line (n + 1) (record { starts = starts i; waits = waits i; pipes = pipes i; closes = closes i }) 0))

pub samples-are-told : SamplesAreTold
unfolding line_told
samples-are-told n state few = samples-are-run n state few ∙ ap (line_told state) (samples-end n few)

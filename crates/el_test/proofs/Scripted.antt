-- What is inside a scripted asker, as it is seen.
use Rattle.std.proofs.Common.{◌≡◌, ◌≢◌, ℕ, suc, ◌+◌, ◌-◌, ◌^◌, ◌<◌, ◌≤◌, min, Bool, true, false, List, [], ◌∷◌, ◌++◌, Some, Result, Ok, Err, drop, length, slice_get, refl, sym, ap, ◌∙◌, arith, nat_lt, if◌then◌else◌}
use Rattle.std.proofs.Math.Seq.{drop-length}
use Rattle.std.specs.Result.{IsErrAnd}
use Rattle.std.proofs.lemmas.Result.{err_from_is_err_and}
use mir.Val.{bool_byte}
use Rattle.el_test.specs.declared.operators.Question.{Question}
use Rattle.el_test.specs.declared.asker.AskEvent.{AskEvent}
use Rattle.el_test.specs.declared.asker.AskFault.{AskFault}
use Rattle.el_test.specs.declared.asker.AskFault.TheVariants.{Failed, NoMemory}
use Rattle.el_test.specs.declared.ask_answers.AskAnswer.{AskAnswer}
use Rattle.el_test.specs.Asker.{extended, event_of, ask_told}
use Rattle.el_test.specs.ScriptedAsker.{due, or_no, counted}
use Rattle.el_test.proofs.Walked.{extended_none}

pub due-drop : (answers : List AskAnswer) (n : ℕ) → or_no (slice_get answers n) ≡ due (drop n answers)
due-drop [] Prim.Native.Nat.zero = refl
due-drop [] (suc n) = refl
due-drop (answer ∷ answers) Prim.Native.Nat.zero = refl
due-drop (answer ∷ answers) (suc n) = due-drop answers n

drop-suc : (n : ℕ) (xs : List AskAnswer) → drop (suc n) xs ≡ drop 1 (drop n xs)
drop-suc Prim.Native.Nat.zero xs = refl
drop-suc (suc n) [] = refl
drop-suc (suc n) (x ∷ xs) = drop-suc n xs

-- one answer is taken, where one is left
pub one_taken : (n m : ℕ) (xs : List AskAnswer) → n ≤ length xs → length xs < 2 ^ 64 → m ≡ min (min (n + 1) (2 ^ 64 - 1)) (length xs) → drop m xs ≡ drop 1 (drop n xs)
one_taken n m xs within small is = by (nat_lt n (length xs)) refl
  where
    by : (b : Bool) → nat_lt n (length xs) ≡ b → drop m xs ≡ drop 1 (drop n xs)
    by true lt = let next : m ≡ suc n = let less : n < length xs = grind (arith, lt) in omega arith in ap (λ k. drop k xs) next ∙ drop-suc n xs
    by false ge =
        let over : n ≡ length xs = let more : length xs ≤ n = grind (arith, ge) in omega arith in
        let all : m ≡ length xs = omega arith in
        ap (λ k. drop k xs) all ∙ drop-length xs ∙ sym (ap (λ k. drop 1 (drop k xs)) over ∙ ap (λ ys. drop 1 ys) (drop-length xs))

pub counted-min : (failed : Bool) (faults : ℕ) → faults < 2 ^ 64 → min (faults + bool_byte failed) (2 ^ 64 - 1) ≡ counted failed faults
counted-min true faults small = by (nat_lt faults (2 ^ 64 - 1)) refl
  where
    by : (b : Bool) → nat_lt faults (2 ^ 64 - 1) ≡ b → min (faults + 1) (2 ^ 64 - 1) ≡ (if b then faults + 1 else faults)
    by true lt = let less : faults < 2 ^ 64 - 1 = grind (arith, lt) in omega arith
    by false ge = let more : 2 ^ 64 - 1 ≤ faults = grind (arith, ge) in omega arith
counted-min false faults small = omega arith

module _ (old new : List AskEvent) (dir path : List ℕ) (question : Question) where
  -- the log stays where there is no memory
  pub no_ask : (answer : Result Bool AskFault) → IsErrAnd answer (λ e. e ≡ NoMemory) → new ≡ old → Some new ≡ extended (Some old) (ask_told dir path question answer)
  unfolding ask_told
  no_ask answer is same = let p = err_from_is_err_and answer is in rw (p.1, p.2) (ap Some same ∙ sym (extended_none (Some old)))

  -- and has the ask that is answered
  pub one_ask : (answer : Result Bool AskFault) → answer ≢ Err NoMemory → new ≡ old ++ event_of dir path question answer ∷ [] → Some new ≡ extended (Some old) (ask_told dir path question answer)
  unfolding ask_told extended
  one_ask (Ok value) some is = ap Some is
  one_ask (Err Failed) some is = ap Some is
  one_ask (Err NoMemory) some is = absurd (some refl)

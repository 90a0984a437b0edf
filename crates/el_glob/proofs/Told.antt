-- What a scripted lister tells.
use Rattle.std.proofs.Common.{◌≡◌, ◌≢◌, ◌∙◌, refl, sym, ap, ℕ, suc, ◌+◌, ◌-◌, ◌^◌, ◌<◌, ◌≤◌, min, Bool, true, false, List, [], ◌∷◌, ◌++◌, length, drop, slice_get, append-nil, Option, Some, None, Result, Ok, Err, IfOk, cond, nat_lt, arith}
use Rattle.std.proofs.Math.Seq.{drop-length}
use Rattle.std.specs.Result.{IsErrAnd}
use Rattle.std.proofs.lemmas.Result.{err_from_is_err_and}
use Rattle.el_glob.specs.declared.listed.Listed.{Listed}
use Rattle.el_glob.specs.declared.listed.Listed.TheVariants.{Names as NamesOf, NoDirectory}
use Rattle.el_glob.specs.declared.listed.ListFault.{ListFault}
use Rattle.el_glob.specs.declared.listed.ListFault.TheVariants.{Failed, NoMemory}
use Rattle.el_glob.specs.declared.listed.ListEvent.{ListEvent}
use Rattle.el_glob.specs.declared.list_answers.ListAnswer.{ListAnswer}
use Rattle.el_glob.specs.declared.list_answers.ListAnswer.TheVariants.{Names, NoDirectory as Missing, Fault}
use Rattle.el_glob.specs.Names.{are_entry_names, IsListing}
use Rattle.el_glob.specs.Listers.{extended, listing, is_fault}
use Rattle.el_glob.specs.ScriptedLister.{due, reply}

module _ (old new : List ListEvent) (dir path : List ℕ) where
  -- the log stays where there is no memory
  pub no_list : (answer : Result Listed ListFault) → IsErrAnd answer (λ e. e ≡ NoMemory) → new ≡ old → Some new ≡ extended (Some old) (listing dir path answer)
  unfolding extended listing
  no_list answer is same = let p = err_from_is_err_and answer is in rw (p.1, p.2) (ap Some (same ∙ sym (append-nil old)))

  -- and has the event of a listing that is answered
  pub one_list : (answer : Result Listed ListFault) → answer ≢ Err NoMemory → new ≡ old ++ record { dir = dir; path = path; answer = answer } ∷ [] → Some new ≡ extended (Some old) (listing dir path answer)
  unfolding extended listing
  one_list (Ok listed) some is = ap Some is
  one_list (Err Failed) some is = ap Some is
  one_list (Err NoMemory) some is = absurd (some refl)

-- a reply is none of want of memory
pub replied : (answer : Option ListAnswer) → reply answer ≢ Err NoMemory
replied None is = cc
replied (Some (Names names)) is = by (are_entry_names names) is where
  by : (b : Bool) → cond b (Ok (NamesOf names)) (Ok NoDirectory) ≡ Err NoMemory → ⊥
  by true is = cc
  by false is = cc
replied (Some Missing) is = cc
replied (Some Fault) is = cc

-- and says of a directory what may be said
pub reply-listing : (answer : Option ListAnswer) → IfOk (reply answer) IsListing
reply-listing None = tt
reply-listing (Some (Names names)) = by (are_entry_names names) refl where
  by : (b : Bool) → are_entry_names names ≡ b → IfOk {T = Listed} {E = ListFault} (cond b (Ok (NamesOf names)) (Ok NoDirectory)) IsListing
  by true is = is
  by false is = tt
reply-listing (Some Missing) = tt
reply-listing (Some Fault) = tt

-- a listing that failed
pub failed-fault : (answer : Result Listed ListFault) → answer ≡ Err Failed → is_fault answer ≡ true
failed-fault answer is = ap is_fault is

-- ---- answers

pub due-drop : (answers : List ListAnswer) (n : ℕ) → slice_get answers n ≡ due (drop n answers)
due-drop [] Prim.Native.Nat.zero = refl
due-drop [] (suc n) = refl
due-drop (answer ∷ answers) Prim.Native.Nat.zero = refl
due-drop (answer ∷ answers) (suc n) = due-drop answers n

drop-suc : (n : ℕ) (xs : List ListAnswer) → drop (suc n) xs ≡ drop 1 (drop n xs)
drop-suc Prim.Native.Nat.zero xs = refl
drop-suc (suc n) [] = refl
drop-suc (suc n) (x ∷ xs) = drop-suc n xs

-- one answer is taken, where one is left
pub one_taken : (n m : ℕ) (xs : List ListAnswer) → n ≤ length xs → length xs < 2 ^ 64 → m ≡ min (min (n + 1) (2 ^ 64 - 1)) (length xs) → drop m xs ≡ drop 1 (drop n xs)
one_taken n m xs within small is = by (nat_lt n (length xs)) refl where
  by : (b : Bool) → nat_lt n (length xs) ≡ b → drop m xs ≡ drop 1 (drop n xs)
  by true lt = let next : m ≡ suc n = let less : n < length xs = grind (arith, lt) in omega arith in ap (λ k. drop k xs) next ∙ drop-suc n xs
  by false ge =
      let over : n ≡ length xs = let more : length xs ≤ n = grind (arith, ge) in omega arith in
      let all : m ≡ length xs = omega arith in
      ap (λ k. drop k xs) all ∙ drop-length xs ∙ sym (ap (λ k. drop 1 (drop k xs)) over ∙ ap (λ ys. drop 1 ys) (drop-length xs))

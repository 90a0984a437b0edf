-- What a scripted world tells.
use Rattle.std.proofs.Common.{◌≡◌, ◌≢◌, ℕ, List, [], ◌∷◌, ◌++◌, Some, Result, Ok, Err, IsErrOf, Bool, true, false, refl, sym, ap, ◌∙◌, arith, true≢false, nat_lt, if◌then◌else◌, ◌+◌, ◌-◌, ◌^◌, ◌≤◌}
use Rattle.std.specs.Result.{IsErrAnd}
use Rattle.std.proofs.lemmas.Result.{err_from_is_err_and}
use Rattle.el_world.specs.declared.event.Event.{Event}
use Rattle.el_world.specs.declared.event.Pid.{Pid}
use Rattle.el_world.specs.declared.event.Fault.{Fault}
use Rattle.el_world.specs.declared.event.Fault.TheVariants.{Failed, NoMemory}
use Rattle.el_world.specs.declared.event.StartFault.{StartFault}
use Rattle.el_world.specs.declared.event.StartFault.TheVariants.{NotFound, NotStartable, Failed as StartFailed, NoMemory as NoStartMemory}
use Rattle.el_world.specs.World.{extended, told_unless_no_memory, told_unless_no_start_memory, HasCause}
use Rattle.el_world.specs.Scripted.{counted}
use Rattle.el_world.proofs.Added.{extended-nothing}

module _ (old new : List Event) where
  -- the log stays where there is no memory
  pub no_start : (event : Event) (answer : Result Pid StartFault) → IsErrAnd answer (λ e. e ≡ NoStartMemory) → new ≡ old → Some new ≡ extended (Some old) (told_unless_no_start_memory answer event)
  unfolding told_unless_no_start_memory
  no_start event answer is same = let p = err_from_is_err_and answer is in rw (p.1, p.2) (ap Some same ∙ extended-nothing (Some old))

  pub no_call : {T : Type 0} (event : Event) (answer : Result T Fault) → IsErrAnd answer (λ e. e ≡ NoMemory) → new ≡ old → Some new ≡ extended (Some old) (told_unless_no_memory answer event)
  unfolding told_unless_no_memory
  no_call event answer is same = let p = err_from_is_err_and answer is in rw (p.1, p.2) (ap Some same ∙ extended-nothing (Some old))

  -- and has the event of a call that answers
  pub one_start : (event : Event) (answer : Result Pid StartFault) → answer ≢ Err NoStartMemory → new ≡ old ++ event ∷ [] → Some new ≡ extended (Some old) (told_unless_no_start_memory answer event)
  unfolding told_unless_no_start_memory extended
  one_start event (Ok pid) some is = ap Some is
  one_start event (Err NotFound) some is = ap Some is
  one_start event (Err NotStartable) some is = ap Some is
  one_start event (Err StartFailed) some is = ap Some is
  one_start event (Err NoStartMemory) some is = absurd (some refl)

  pub one_call : {T : Type 0} (event : Event) (answer : Result T Fault) → answer ≢ Err NoMemory → new ≡ old ++ event ∷ [] → Some new ≡ extended (Some old) (told_unless_no_memory answer event)
  unfolding told_unless_no_memory extended
  one_call event (Ok value) some is = ap Some is
  one_call event (Err Failed) some is = ap Some is
  one_call event (Err NoMemory) some is = absurd (some refl)

-- a fault is counted
pub counts : {T E : Type 0} {before now : ℕ} (r : Result T E) (e : E) (failed : Bool) → now ≡ counted failed before → (IsErrOf r e → failed ≡ true) → HasCause before now r e
counts {before = before} {now = now} r e true is only = grow (nat_lt before (2 ^ 64 - 1)) refl is
  where
    grow : (b : Bool) → nat_lt before (2 ^ 64 - 1) ≡ b → now ≡ (if b then before + 1 else before) → HasCause before now r e
    grow true lt is = record { later = omega arith; risen = λ _. omega arith }
    grow false lt is = let full : 2 ^ 64 - 1 ≤ before = grind (arith, lt) in record { later = omega arith; risen = λ _. omega arith }
counts {before = before} {now = now} r e false is only = record { later = omega arith; risen = λ h. absurd (true≢false (sym (only h))) }

-- Where a failure is answered, a call of the world failed.
use Rattle.std.proofs.Common.{◌≡◌, ℕ, ◌≤◌, Bool, true, false, true≢false, ◌||◌, List, [], ◌∷◌, Option, Some, Result, Ok, Err, is_err, IsErrOf, refl, sym, ap, ◌∙◌, arith}
use Rattle.std.proofs.Math.Bool.{or_assoc}
use Rattle.std.proofs.lemmas.Bool.{and_parts, or_left}
use Rattle.el_env.specs.Vars.{Vars}
use Rattle.el_world.specs.declared.event.Event.{Event}
use Rattle.el_world.specs.declared.event.Fault.{Fault}
use Rattle.el_world.specs.declared.event.Fault.TheVariants.{Failed, NoMemory}
use Rattle.el_world.specs.declared.event.StartFault.{StartFault}
use Rattle.el_world.specs.declared.event.StartFault.TheVariants.{NotFound, NotStartable, Failed as StartFailed, NoMemory as NoStartMemory}
use Rattle.el_world.specs.declared.event.Ended.{Ended}
use Rattle.el_world.specs.declared.event.Handle.{Handle}
use Rattle.el_world.specs.declared.event.Pid.{Pid}
use Rattle.el_world.specs.World.{Seen, is_failed, Rose, HasCause}
use Rattle.el_world.specs.Lawful.{is_lawful, are_lawful}
use Rattle.el_world.specs.Calls.{AnswerOf, event_of, is_fault, has_fault}
use Rattle.el_world.specs.Acts.{Act, gives, calls, and_do, Does, start_act, wait_act, read_act}
use Rattle.el_world.specs.Runs.{Done, call_result}
use Rattle.el_proc.specs.Children.{started_by, failing, waited_for}

-- another answer has no cause
pub no_cause : {T E : Type 0} {before now : ℕ} {answer : Result T E} {error : E} → before ≤ now → (IsErrOf answer error → ⊥) → HasCause before now answer error
no_cause later other = record { later = later; risen = λ is. absurd (other is) }

-- the count doesn't fall before the cause
pub cause_later : {T E : Type 0} {before mid now : ℕ} {answer : Result T E} {error : E} → before ≤ mid → HasCause mid now answer error → HasCause before now answer error
cause_later le cause = record { later = omega (arith, le, cause.later); risen = λ is. let rose = cause.risen is in omega (arith, le, rose) }

module _ {A : Type 0} (fails : A → Bool) where
  -- whatever is answered, the act gives a failure only where a call failed; or one had failed before
  abbrev pub Blames : (failed : Bool) → Act A → Type 0
  Blames failed (gives result) = fails result ≡ true → failed ≡ true
  Blames failed (calls call after) = (answer : AnswerOf call) → is_lawful (event_of call answer) ≡ true → Blames (failed || is_fault (event_of call answer)) (after answer)

  blamed : (failed : Bool) (act : Act A) (events : List Event) (result : A) → Blames failed act → Does act events result
      → are_lawful events ≡ true → fails result ≡ true → (failed || has_fault events) ≡ true
  blamed failed (gives a) [] result blames does lawful is = or_left failed false (blames (sym (ap fails does) ∙ is))
  blamed failed (gives a) (event ∷ events) result blames does lawful is = absurd does
  blamed failed (calls call after) [] result blames does lawful is = absurd does
  blamed failed (calls call after) (event ∷ events) result blames (answer, same, does) lawful is =
      let parts = and_parts (is_lawful event) (are_lawful events) lawful in
      let later = blamed (failed || is_fault (event_of call answer)) (after answer) events result (blames answer (sym (ap is_lawful same) ∙ parts.0)) does parts.1 is in
      sym (or_assoc failed (is_fault event) (has_fault events)) ∙ ap (λ event. (failed || is_fault event) || has_fault events) same ∙ later

  -- behind a call that failed anything may be given
  blames_all : (act : Act A) → Blames true act
  blames_all (gives result) = λ is. refl
  blames_all (calls call after) = λ answer lawful. blames_all (after answer)

  -- so the count of faults rose
  rose : {old new : Seen} (act : Act A) (result : A) → Blames false act → Done old new act (Some result) → fails result ≡ true → Rose old.faults new.faults
  rose act result blames done is = done.added.risen (blamed false act done.events result blames done.agrees done.added.lawful is)

-- ---- single calls

pub start_caused : {old new : Seen} (words : List (List ℕ)) (env : Vars) (dir : List ℕ) (ends : List (Option Handle)) (answer : Result Pid StartFault)
    → Done old new (start_act words env dir ends) (Some answer) → HasCause old.faults new.faults (started_by answer) Failed
unfolding start_act
start_caused {old} {new} words env dir ends answer done = by answer done
  where
    fails : Result Pid StartFault → Bool
    fails answer = is_failed (started_by answer)

    blames : Blames fails false (start_act words env dir ends)
    blames (Ok pid) lawful = λ is. is
    blames (Err NotFound) lawful = λ is. is
    blames (Err NotStartable) lawful = λ is. is
    blames (Err StartFailed) lawful = λ is. refl
    blames (Err NoStartMemory) lawful = absurd (true≢false (sym lawful))

    by : (answer : Result Pid StartFault) → Done old new (start_act words env dir ends) (Some answer) → HasCause old.faults new.faults (started_by answer) Failed
    by (Ok pid) done = no_cause done.added.later (λ is. let no : ⊥ = cc in no)
    by (Err NotFound) done = no_cause done.added.later (λ is. let no : ⊥ = cc in no)
    by (Err NotStartable) done = no_cause done.added.later (λ is. let no : ⊥ = cc in no)
    by (Err StartFailed) done = record { later = done.added.later; risen = λ is. rose fails (start_act words env dir ends) (Err StartFailed) blames done refl }
    by (Err NoStartMemory) done = record { later = done.added.later; risen = λ is. rose fails (start_act words env dir ends) (Err NoStartMemory) blames done refl }

pub read_failed : {old new : Seen} (handle : Handle) (fault : Fault) → Done old new (read_act handle) (Some (Err fault)) → Rose old.faults new.faults
unfolding read_act
read_failed handle fault done = rose is_err (read_act handle) (Err fault) blames done refl
  where
    blames : Blames is_err false (read_act handle)
    blames (Ok bytes) lawful = λ is. is
    blames (Err Failed) lawful = λ is. refl
    blames (Err NoMemory) lawful = absurd (true≢false (sym lawful))

-- ---- a wait, which is complained of where it fails

pub wait_caused : {old new : Seen} (fds : List (Option Handle)) (name : List ℕ) (pid : Pid) (result : Result Ended Fault)
    → Done old new (waited_for fds name pid) (call_result result) → HasCause old.faults new.faults result Failed
unfolding waited_for wait_act and_do
wait_caused {old} {new} fds name pid result done = by result done
  where
    blames : Blames is_failed false (waited_for fds name pid)
    blames (Ok ended) lawful = λ is. is
    blames (Err Failed) lawful = blames_all is_failed (failing fds name)
    blames (Err NoMemory) lawful = absurd (true≢false (sym lawful))

    by : (result : Result Ended Fault) → Done old new (waited_for fds name pid) (call_result result) → HasCause old.faults new.faults result Failed
    by (Ok ended) done = no_cause done.added.later (λ is. let no : ⊥ = cc in no)
    by (Err Failed) done = record { later = done.added.later; risen = λ is. rose is_failed (waited_for fds name pid) (Err Failed) blames done refl }
    by (Err NoMemory) done = no_cause done.added.later (λ is. let no : ⊥ = cc in no)

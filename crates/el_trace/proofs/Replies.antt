-- What the calls of a replaying world tell.
use Rattle.el_room.proofs.Vocabulary.{Bor, option_copied, slice_get, right_of, Event, Pid, Ended, Exited, Killed, Fault, StartFault, is_failed, is_start_failed, is_wait_status, IsWaitStatus, is_answer, is_start_answer, is_piece, given_by, Gave, Keeps, Close, Handle, Call, AnswerOf, event_of, close}
use Rattle.std.proofs.Common.{◌≡◌, ◌≢◌, ℕ, ◌≤◌, nat_lt, Bool, true, List, [], ◌++◌, length, Option, None, Some, is_some, Result, Ok, Err, IfOk, IsErrOf, refl, sym, ap, subst, ◌∙◌, append-nil, arith, true≢false}
use Rattle.el_words.proofs.Truths.{left_of}
use Rattle.el_world.specs.declared.event.TheConstants.{MAX_PIECE}
use Rattle.el_world.specs.declared.event.Fault.TheVariants.{Failed, NoMemory}
use Rattle.el_world.specs.declared.event.StartFault.TheVariants.{Failed as StartFailed, NoMemory as NoStartMemory}
use Rattle.el_trace.specs.Answers.{IsAnswer}
use Rattle.el_trace.specs.NewHandles.{next_behind}
use Rattle.el_trace.specs.Replays.{Replaying, seen_of, failure, or_failed, Fits, behind}
use Rattle.el_trace.proofs.Replaying.{answer_fits}

-- the event of a call fits, by the answer that was found to it
pub told_fits : (left : List Event) (call : Call) (due : Option Event) (found : Option (AnswerOf call)) (answer : AnswerOf call) (fits : Bool) → due ≡ slice_get left 0 → IsAnswer due call found → answer ≡ or_failed (failure call) found → fits ≡ is_some found
    → Fits left (event_of call answer) fits
told_fits left call due found answer fits here is same fit =
    subst (λ fits. Fits left (event_of call answer) fits) (sym fit)
    (subst (λ (answer : AnswerOf call). Fits left (event_of call answer) (is_some found)) (sym same) (answer_fits left call found (subst (λ due. IsAnswer due call found) here is)))

-- a lawful answer isn't want of memory
pub not_memory : {T : Type 0} (test : T → Bool) (answer : Result T Fault) → is_answer test answer ≡ true → answer ≢ Err NoMemory
not_memory test answer is same = true≢false (sym is ∙ ap (is_answer test) same)

pub not_start_memory : (answer : Result Pid StartFault) → is_start_answer answer ≡ true → answer ≢ Err NoStartMemory
not_start_memory answer is same = true≢false (sym is ∙ ap is_start_answer same)

-- a failure is counted
pub failed_counts : {T : Type 0} (answer : Result T Fault) → IsErrOf answer Failed → is_failed answer ≡ true
failed_counts answer is = ap is_failed is

pub start_failed_counts : (answer : Result Pid StartFault) → IsErrOf answer StartFailed → is_start_failed answer ≡ true
start_failed_counts answer is = ap is_start_failed is

-- a call that gave nothing keeps what is held
pub kept : (old new : Replaying) (event : Event) (fits : Bool) → new ≡ behind old event fits → given_by event ≡ [] → Gave (seen_of old) (seen_of new) (given_by event) → Keeps (seen_of old) (seen_of new)
kept old new event fits is none gave = record {
  held = gave.held ∙ ap (λ handles. (seen_of old).held ++ handles) none ∙ append-nil (seen_of old).held;
  next = ap (λ (replay : Replaying). replay.next) is ∙ ap (next_behind old.next) none;
  origin = gave.origin;
}

-- a lawful end of a process has a signal in its range
pub lawful_signal : (answer : Result Ended Fault) → is_answer is_wait_status answer ≡ true → IfOk answer IsWaitStatus
lawful_signal (Ok (Exited code)) is = tt
lawful_signal (Ok (Killed signal)) is = (grind (arith, left_of (nat_lt 0 signal) (nat_lt signal 128) is), grind (arith, right_of (nat_lt 0 signal) (nat_lt signal 128) is))
lawful_signal (Err fault) is = tt

-- and a lawful piece isn't too long
pub lawful_piece : (answer : Result (List ℕ) Fault) → is_answer is_piece answer ≡ true → IfOk answer (λ bytes. length bytes ≤ MAX_PIECE)
lawful_piece (Ok bytes) is = grind (arith, is)
lawful_piece (Err fault) is = tt

-- a value that is lent is there as the value is
pub copied_some : {T : Type 0} (lent : Option (Bor T)) → is_some (option_copied lent) ≡ is_some lent
copied_some None = refl
copied_some (Some value) = refl

-- a close fits, by whether it was found to be due
pub close_fits : (left : List Event) (handle : Handle) (due : Option Event) (found : Option (Unit {0})) (fits : Bool) → due ≡ slice_get left 0 → IsAnswer due (close handle) found → fits ≡ is_some found → Fits left (Close handle) fits
close_fits left handle due None fits here is fit = told_fits left (close handle) due None tt fits here is refl fit
close_fits left handle due (Some found) fits here is fit = told_fits left (close handle) due (Some found) found fits here is refl fit

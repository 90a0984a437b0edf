-- What the clauses of the nine calls say: which events they add, and which acts they are.
use Rattle.std.proofs.Common.{◌≡◌, ℕ, ◌≤◌, List, [], ◌∷◌, ◌++◌, Option, None, Some, length, IfOk, IfSome, Result, Ok, Err, refl, sym, ap, subst, ◌∙◌, Bool, true, false, true≢false, append-nil, arith}
use Rattle.std.proofs.lemmas.Bool.{lt-ltb, le-leb}
use Rattle.std.proofs.lemmas.Result.{IfOk-at_ok}
use Rattle.el_env.specs.Vars.{Vars}
use Rattle.el_world.specs.declared.event.Event.{Event}
use Rattle.el_world.specs.declared.event.Event.TheVariants.{Start, Wait, Opened, Pipe, Feed, Read, Write, Close, Enter}
use Rattle.el_world.specs.declared.event.Handle.{Handle}
use Rattle.el_world.specs.declared.event.PipeEnds.{PipeEnds}
use Rattle.el_world.specs.declared.event.Mode.{Mode}
use Rattle.el_world.specs.declared.event.Pid.{Pid}
use Rattle.el_world.specs.declared.event.Ended.{Ended}
use Rattle.el_world.specs.declared.event.Fault.{Fault}
use Rattle.el_world.specs.declared.event.Fault.TheVariants.{Failed, NoMemory}
use Rattle.el_world.specs.declared.event.StartFault.{StartFault}
use Rattle.el_world.specs.declared.event.StartFault.TheVariants.{NotFound, NotStartable, Failed as StartFailed, NoMemory as NoStartMemory}
use Rattle.el_world.specs.World.{Seen, extended, started, waited, file_opened, pipe_made, fed, written, told_unless_no_memory, told_or_lost, told_unless_no_start_memory, is_failed, Rose, HasCause, is_wait_status, IsWaitStatus}
use Rattle.el_world.specs.Lawful.{is_lawful, TellsOrLoses}
use Rattle.el_world.specs.declared.event.TheConstants.{MAX_PIECE}
use Rattle.el_world.specs.declared.event.Ended.TheVariants.{Exited, Killed}
use Rattle.el_world.specs.Handles.{Keeps, Gave, is_held, is_usable, are_usable, without, opened_handles, piped_handles, given_by, held_after, names_held}
use Rattle.el_world.specs.Calls.{is_fault}
use Rattle.el_world.specs.Acts.{Act, Does, Begins, start_act, wait_act, open_act, pipe_act, feed_act, read_act, write_act, close_act, enter_act}
use Rattle.el_world.specs.Runs.{Added, Done, call_result}
use Rattle.el_world.proofs.Added.{one_added}

-- the answer of a start, unless it had no memory
abbrev pub start_result : Result Pid StartFault → Option (Result Pid StartFault)
start_result (Err NoStartMemory) = None
start_result (Err NotFound) = Some (Err NotFound)
start_result (Err NotStartable) = Some (Err NotStartable)
start_result (Err StartFailed) = Some (Err StartFailed)
start_result (Ok pid) = Some (Ok pid)

never : {b : Bool} {A : Type 0} → b ≡ false → b ≡ true → A
never off on = absurd (true≢false (sym on ∙ off))

-- a signal in its range
wait_status : (ended : Ended) → IsWaitStatus ended → is_wait_status ended ≡ true
wait_status (Exited code) is = refl
wait_status (Killed signal) is = rw (lt-ltb 0 signal is.0, lt-ltb signal 128 is.1) refl

module _ {old new : Seen} where
  -- with an equal result
  pub done_as : {A : Type 0} {done : Act A} {a b : Option A} → Done old new done a → a ≡ b → Done old new done b
  done_as {done = done} p e = subst (λ r. Done old new done r) e p

  -- nothing was given
  pub none_given : Keeps old new → Gave old new []
  none_given keeps = record { held = keeps.held ∙ sym (append-nil old.held); rising = omega (arith, keeps.next); fresh = refl; origin = keeps.origin }

  -- no event where there was no memory
  none_added : new.log ≡ extended old.log [] → old.faults ≤ new.faults → Gave old new [] → Added old new []
  none_added told later gave = record {
    lawful = refl;
    told = told;
    later = later;
    risen = λ no. absurd (true≢false (sym no));
    held = gave.held ∙ append-nil old.held;
    rising = gave.rising;
    fresh = refl;
    named = refl;
    origin = gave.origin;
  }

  -- the lawful event of a call that gave these handles
  event_added : (event : Event) → is_lawful event ≡ true → new.log ≡ extended old.log (event ∷ []) → old.faults ≤ new.faults → (is_fault event ≡ true → Rose old.faults new.faults)
      → Gave old new (given_by event) → held_after old.held event ≡ old.held ++ given_by event
      → names_held old.held event ≡ true → Added old new (event ∷ [])
  event_added event lawful told later risen gave after named = one_added event lawful told later risen (gave.held ∙ sym after) gave.rising gave.fresh named gave.origin

  pub added-start : (words : List (List ℕ)) (env : Vars) (dir : List ℕ) (handles : List (Option Handle)) (answer : Result Pid StartFault)
      → new.log ≡ extended old.log (started words env dir handles answer) → HasCause old.faults new.faults answer StartFailed → Keeps old new → are_usable old.held handles ≡ true
      → Added old new (started words env dir handles answer)
  unfolding told_unless_no_start_memory
  added-start words env dir handles (Err NoStartMemory) e h k named = none_added e h.later (none_given k)
  added-start words env dir handles (Err NotFound) e h k named = event_added _ refl e h.later (never refl) (none_given k) refl named
  added-start words env dir handles (Err NotStartable) e h k named = event_added _ refl e h.later (never refl) (none_given k) refl named
  added-start words env dir handles (Err StartFailed) e h k named = event_added _ refl e h.later (λ _. h.risen refl) (none_given k) refl named
  added-start words env dir handles (Ok pid) e h k named = event_added _ refl e h.later (never refl) (none_given k) refl named

  -- a call other than a start and a close, by its event for each answer
  added-call : {T : Type 0} (event : Result T Fault → Event) (handles_of : Result T Fault → List Handle) (answer : Result T Fault)
      → new.log ≡ extended old.log (told_unless_no_memory answer (event answer)) → HasCause old.faults new.faults answer Failed → Gave old new (handles_of answer)
      → ((a : Result T Fault) → is_fault (event a) ≡ is_failed a)
      → ((a : Result T Fault) → given_by (event a) ≡ handles_of a) → ((a : Result T Fault) → held_after old.held (event a) ≡ old.held ++ handles_of a)
      → ((a : Result T Fault) → names_held old.held (event a) ≡ true) → handles_of (Err NoMemory) ≡ [] → is_lawful (event (Err Failed)) ≡ true → ((value : T) → answer ≡ Ok value → is_lawful (event (Ok value)) ≡ true)
      → Added old new (told_unless_no_memory answer (event answer))
  unfolding told_unless_no_memory
  added-call event handles_of (Err NoMemory) e h gave fault by after named none fails lawful = none_added e h.later (subst (λ handles. Gave old new handles) none gave)
  added-call event handles_of (Err Failed) e h gave fault by after named none fails lawful =
      event_added _ fails e h.later (λ _. h.risen refl) (subst (λ handles. Gave old new handles) (sym (by (Err Failed))) gave) (after (Err Failed) ∙ ap (λ handles. old.held ++ handles) (sym (by (Err Failed)))) (named (Err Failed))
  added-call event handles_of (Ok value) e h gave fault by after named none fails lawful =
      event_added _ (lawful value refl) e h.later (never (fault (Ok value))) (subst (λ handles. Gave old new handles) (sym (by (Ok value))) gave) (after (Ok value) ∙ ap (λ handles. old.held ++ handles) (sym (by (Ok value)))) (named (Ok value))

  -- a call that gives no handle
  added-plain : {T : Type 0} (event : Result T Fault → Event) (answer : Result T Fault)
      → new.log ≡ extended old.log (told_unless_no_memory answer (event answer)) → HasCause old.faults new.faults answer Failed → Keeps old new
      → ((a : Result T Fault) → is_fault (event a) ≡ is_failed a)
      → ((a : Result T Fault) → given_by (event a) ≡ []) → ((a : Result T Fault) → held_after old.held (event a) ≡ old.held ++ []) → ((a : Result T Fault) → names_held old.held (event a) ≡ true)
      → is_lawful (event (Err Failed)) ≡ true → ((value : T) → answer ≡ Ok value → is_lawful (event (Ok value)) ≡ true)
      → Added old new (told_unless_no_memory answer (event answer))
  added-plain event answer e h k fault by after named fails lawful = added-call event (λ _. []) answer e h (none_given k) fault by after named refl fails lawful

  -- a call that loses nothing
  pub none_is_lost : {T : Type 0} (event : Result T Fault → Event) (answer : Result T Fault) → new.log ≡ extended old.log (told_unless_no_memory answer (event answer)) → TellsOrLoses old new event answer
  unfolding told_or_lost told_unless_no_memory
  none_is_lost {T} event answer told = record { lost = None; told = told ∙ ap (extended old.log) (by answer); lawful = tt }
    where
      by : (answer : Result T Fault) → told_unless_no_memory answer (event answer) ≡ told_or_lost event answer None
      by (Ok value) = refl
      by (Err Failed) = refl
      by (Err NoMemory) = refl

  -- a call that may lose the value that came
  added-losing : {T : Type 0} (event : Result T Fault → Event) (answer : Result T Fault) (is : TellsOrLoses old new event answer) → HasCause old.faults new.faults answer Failed → Keeps old new
      → ((a : Result T Fault) → is_fault (event a) ≡ is_failed a)
      → ((a : Result T Fault) → given_by (event a) ≡ []) → ((a : Result T Fault) → held_after old.held (event a) ≡ old.held ++ []) → ((a : Result T Fault) → names_held old.held (event a) ≡ true)
      → is_lawful (event (Err Failed)) ≡ true → ((value : T) → answer ≡ Ok value → is_lawful (event (Ok value)) ≡ true)
      → Added old new (told_or_lost event answer is.lost)
  unfolding told_or_lost told_unless_no_memory
  added-losing {T} event answer is h k fault by after named fails lawful = cases answer is.lost is.told h lawful is.lawful
    where
      cases : (answer : Result T Fault) (lost : Option T) → new.log ≡ extended old.log (told_or_lost event answer lost) → HasCause old.faults new.faults answer Failed
          → ((value : T) → answer ≡ Ok value → is_lawful (event (Ok value)) ≡ true) → IfSome lost (λ value. is_lawful (event (Ok value)) ≡ true) → Added old new (told_or_lost event answer lost)
      cases (Ok value) lost e h lawful came = added-plain event (Ok value) e h k fault by after named fails lawful
      cases (Err Failed) lost e h lawful came = added-plain event (Err Failed) e h k fault by after named fails lawful
      cases (Err NoMemory) None e h lawful came = added-plain event (Err NoMemory) e h k fault by after named fails lawful
      cases (Err NoMemory) (Some value) e h lawful came =
          event_added _ came e h.later (never (fault (Ok value))) (subst (λ handles. Gave old new handles) (sym (by (Ok value))) (none_given k)) (after (Ok value) ∙ ap (λ handles. old.held ++ handles) (sym (by (Ok value)))) (named (Ok value))

  pub added-wait : (pid : Pid) (answer : Result Ended Fault) → new.log ≡ extended old.log (waited pid answer) → HasCause old.faults new.faults answer Failed → Keeps old new → IfOk answer IsWaitStatus
      → Added old new (waited pid answer)
  added-wait pid answer e h k signal = added-plain (Wait pid) answer e h k (λ a. refl) (λ a. refl) (λ a. refl) (λ a. refl) refl (λ ended is. wait_status ended (IfOk-at_ok IsWaitStatus is signal))

  pub added-open : (dir path : List ℕ) (mode : Mode) (answer : Result Handle Fault) → new.log ≡ extended old.log (file_opened dir path mode answer) → HasCause old.faults new.faults answer Failed → Gave old new (opened_handles answer)
      → Added old new (file_opened dir path mode answer)
  added-open dir path mode answer e h gave = added-call (Opened dir path mode) opened_handles answer e h gave (λ a. refl) (λ a. refl) (λ a. refl) (λ a. refl) refl refl (λ _ _. refl)

  pub added-pipe : (answer : Result PipeEnds Fault) → new.log ≡ extended old.log (pipe_made answer) → HasCause old.faults new.faults answer Failed → Gave old new (piped_handles answer)
      → Added old new (pipe_made answer)
  added-pipe answer e h gave = added-call Pipe piped_handles answer e h gave (λ a. refl) (λ a. refl) (λ a. refl) (λ a. refl) refl refl (λ _ _. refl)

  pub added-feed : (bytes : List ℕ) (answer : Result Handle Fault) → new.log ≡ extended old.log (fed bytes answer) → HasCause old.faults new.faults answer Failed → Gave old new (opened_handles answer)
      → Added old new (fed bytes answer)
  added-feed bytes answer e h gave = added-call (Feed bytes) opened_handles answer e h gave (λ a. refl) (λ a. refl) (λ a. refl) (λ a. refl) refl refl (λ _ _. refl)

  pub added-read : (handle : Handle) (answer : Result (List ℕ) Fault) (is : TellsOrLoses old new (Read handle) answer) → HasCause old.faults new.faults answer Failed → Keeps old new → IfOk answer (λ bytes. length bytes ≤ MAX_PIECE) → is_usable old.held handle ≡ true
      → Added old new (told_or_lost (Read handle) answer is.lost)
  added-read handle answer is h k piece named = added-losing (Read handle) answer is h k (λ a. refl) (λ a. refl) (λ a. refl) (λ a. named) refl (λ bytes same. le-leb (length bytes) MAX_PIECE (IfOk-at_ok (λ (bytes : List ℕ). length bytes ≤ MAX_PIECE) same piece))

  pub added-write : (handle : Handle) (bytes : List ℕ) (answer : Result (Unit {0}) Fault) → new.log ≡ extended old.log (written handle bytes answer) → HasCause old.faults new.faults answer Failed → Keeps old new → is_usable old.held handle ≡ true
      → Added old new (written handle bytes answer)
  added-write handle bytes answer e h k named = added-plain (Write handle bytes) answer e h k (λ a. refl) (λ a. refl) (λ a. refl) (λ a. named) refl (λ _ _. refl)

  pub added-enter : (dir path : List ℕ) (answer : Result (List ℕ) Fault) (is : TellsOrLoses old new (Enter dir path) answer) → HasCause old.faults new.faults answer Failed → Keeps old new
      → Added old new (told_or_lost (Enter dir path) answer is.lost)
  added-enter dir path answer is h k = added-losing (Enter dir path) answer is h k (λ a. refl) (λ a. refl) (λ a. refl) (λ a. refl) refl (λ _ _. refl)

  pub added-close : (handle : Handle) → new.log ≡ extended old.log (Close handle ∷ []) → old.faults ≤ new.faults → new.held ≡ without old.held handle → new.next ≡ old.next → new.origin ≡ old.origin → is_held old.held handle ≡ true
      → Added old new (Close handle ∷ [])
  added-close handle e later held next origin named = one_added (Close handle) refl e later (never refl) held (omega (arith, next)) refl named origin

  -- an act of one call is done by its event
  done-call : {T : Type 0} (done : Act (Result T Fault)) (event : Result T Fault → Event) (answer : Result T Fault) → ((a : Result T Fault) → Does done (event a ∷ []) a)
      → Added old new (told_unless_no_memory answer (event answer)) → Done old new done (call_result answer)
  unfolding told_unless_no_memory
  done-call done event (Err NoMemory) does added = record { events = []; added = added; agrees = tt }
  done-call done event (Err Failed) does added = record { events = event (Err Failed) ∷ []; added = added; agrees = does (Err Failed) }
  done-call done event (Ok value) does added = record { events = event (Ok value) ∷ []; added = added; agrees = does (Ok value) }

  -- and one that may lose the value that came has begun with its event
  done-losing : {T : Type 0} (done : Act (Result T Fault)) (event : Result T Fault → Event) (answer : Result T Fault) (lost : Option T) → ((a : Result T Fault) → Does done (event a ∷ []) a) → ((a : Result T Fault) → Begins done (event a ∷ []))
      → Added old new (told_or_lost event answer lost) → Done old new done (call_result answer)
  unfolding told_or_lost
  done-losing done event (Ok value) lost does begins added = record { events = event (Ok value) ∷ []; added = added; agrees = does (Ok value) }
  done-losing done event (Err Failed) lost does begins added = record { events = event (Err Failed) ∷ []; added = added; agrees = does (Err Failed) }
  done-losing done event (Err NoMemory) None does begins added = record { events = []; added = added; agrees = tt }
  done-losing done event (Err NoMemory) (Some value) does begins added = record { events = event (Ok value) ∷ []; added = added; agrees = begins (Ok value) }

  pub done-start : (words : List (List ℕ)) (env : Vars) (dir : List ℕ) (handles : List (Option Handle)) (answer : Result Pid StartFault)
      → Added old new (started words env dir handles answer) → Done old new (start_act words env dir handles) (start_result answer)
  unfolding start_act told_unless_no_start_memory
  done-start words env dir handles (Err NoStartMemory) added = record { events = []; added = added; agrees = tt }
  done-start words env dir handles (Err NotFound) added = record { events = Start words env dir handles (Err NotFound) ∷ []; added = added; agrees = (Err NotFound, refl, refl) }
  done-start words env dir handles (Err NotStartable) added = record { events = Start words env dir handles (Err NotStartable) ∷ []; added = added; agrees = (Err NotStartable, refl, refl) }
  done-start words env dir handles (Err StartFailed) added = record { events = Start words env dir handles (Err StartFailed) ∷ []; added = added; agrees = (Err StartFailed, refl, refl) }
  done-start words env dir handles (Ok pid) added = record { events = Start words env dir handles (Ok pid) ∷ []; added = added; agrees = (Ok pid, refl, refl) }

  pub done-wait : (pid : Pid) (answer : Result Ended Fault) → Added old new (waited pid answer) → Done old new (wait_act pid) (call_result answer)
  unfolding wait_act
  done-wait pid answer added = done-call (wait_act pid) (Wait pid) answer (λ a. (a, refl, refl)) added

  pub done-open : (dir path : List ℕ) (mode : Mode) (answer : Result Handle Fault) → Added old new (file_opened dir path mode answer) → Done old new (open_act dir path mode) (call_result answer)
  unfolding open_act
  done-open dir path mode answer added = done-call (open_act dir path mode) (Opened dir path mode) answer (λ a. (a, refl, refl)) added

  pub done-pipe : (answer : Result PipeEnds Fault) → Added old new (pipe_made answer) → Done old new pipe_act (call_result answer)
  unfolding pipe_act
  done-pipe answer added = done-call pipe_act Pipe answer (λ a. (a, refl, refl)) added

  pub done-feed : (bytes : List ℕ) (answer : Result Handle Fault) → Added old new (fed bytes answer) → Done old new (feed_act bytes) (call_result answer)
  unfolding feed_act
  done-feed bytes answer added = done-call (feed_act bytes) (Feed bytes) answer (λ a. (a, refl, refl)) added

  pub done-read : (handle : Handle) (answer : Result (List ℕ) Fault) (lost : Option (List ℕ)) → Added old new (told_or_lost (Read handle) answer lost) → Done old new (read_act handle) (call_result answer)
  unfolding read_act
  done-read handle answer lost added = done-losing (read_act handle) (Read handle) answer lost (λ a. (a, refl, refl)) (λ a. (a, refl, tt)) added

  pub done-write : (handle : Handle) (bytes : List ℕ) (answer : Result (Unit {0}) Fault) → Added old new (written handle bytes answer) → Done old new (write_act handle bytes) (call_result answer)
  unfolding write_act
  done-write handle bytes answer added = done-call (write_act handle bytes) (Write handle bytes) answer (λ a. (a, refl, refl)) added

  pub done-enter : (dir path : List ℕ) (answer : Result (List ℕ) Fault) (lost : Option (List ℕ)) → Added old new (told_or_lost (Enter dir path) answer lost) → Done old new (enter_act dir path) (call_result answer)
  unfolding enter_act
  done-enter dir path answer lost added = done-losing (enter_act dir path) (Enter dir path) answer lost (λ a. (a, refl, refl)) (λ a. (a, refl, tt)) added

  pub done-close : (handle : Handle) → Added old new (Close handle ∷ []) → Done old new (close_act handle) (Some tt)
  unfolding close_act
  done-close handle added = record { events = Close handle ∷ []; added = added; agrees = (tt, refl, refl) }

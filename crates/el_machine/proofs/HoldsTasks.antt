-- What all programs share: calls, messages, refusals, children, inputs and fronts.
use Rattle.el_room.proofs.Vocabulary.{and_right, not-true, Prog, name_text, Vars, Front, Lacking, Whole, Taken, front_of, shape_of, Chain, Ended, Event, Fault, Handle, Mode, Pid, StartFault, NotFound as StartNotFound, NotStartable as StartNotStartable, PipeEnds, is_held, are_fresh, Rising, opened_handles, piped_handles, is_failed, is_start_failed, is_wait_status, is_answer, is_start_answer, is_piece, start_act, wait_act, open_act, pipe_act, feed_act, read_act, write_act, close_act, enter_act, State, Task, Started, Empty, Running, Trouble, NotOpen, Failed, code_of, starting, started_by, failing, waited_for, unstarted, unstarted_code, running, child_with, child, first_word, unless_failed, held_in, is_given, streams_of, lost_handles, closing, after_read, gathered, most_units, whole_input, Left, written_to, complaint, message, refused, trouble_status, Read, reads, strictness_of, front_told, trouble_of, told_by, warnings, after_telling, Way, onward, under, into, on, Effect, left_by, acting, entered}
use Rattle.std.proofs.Common.{◌≡◌, ℕ, suc, Bool, true, false, not, ◌&&◌, ◌==◌, List, [], ◌∷◌, ◌++◌, drop, Option, Some, None, Result, Ok, Err, IfOk, refl, sym, ap, ◌∙◌, true≢false, ◌≢◌, inl}
use Rattle.el_words.proofs.Truths.{left_of}
use Rattle.el_options.specs.Fronts.{Lack, KnownLetter, LetterValue, RightUse, GoodNumber, Present, Terminated, Quoted, DirectiveName}
use Rattle.el_world.specs.declared.event.Fault.TheVariants.{Failed as CallFailed, NoMemory}
use Rattle.el_world.specs.declared.event.StartFault.TheVariants.{Failed as StartFailed, NoMemory as NoStartMemory}
use Rattle.el_proc.specs.declared.child.Started.TheVariants.{NotFound, NotStartable}
use Rattle.el_proc.specs.declared.trouble.Trouble.TheVariants.{NotFound as CommandNotFound, NotStartable as CommandNotStartable}
use Rattle.el_proc.specs.Children as children
use Rattle.el_front.specs.Fronts.{reading}
use Rattle.el_front.specs.Reads.{block_at}
use Rattle.el_front.specs.declared.front.Nth.{Nth}
use Rattle.el_redir.specs.Putting.{changed}
use Rattle.el_loops.specs.Turns.{turn_words}
use Rattle.el_machine.specs.Exact.{HoldsExactly}
use Rattle.el_machine.specs.Changes.{MayChange}
use Rattle.el_machine.specs.Causes.{EndsByWait, HasStart, HasTurn}
use Rattle.el_machine.specs.Ways.{MayGo, have_trees_alone}
use Rattle.el_machine.proofs.ExactClosings.{HoldsOthers, holds-closing}
use Rattle.el_machine.proofs.ExactChanges.{Takes, changed_exactly, given_above, none_given, more_given, base_fresh, file_closed}
use Rattle.el_machine.proofs.PipeEnds.{AreNew, ends_new}
use Rattle.el_machine.proofs.Waits.{IsStarted, starts_by, ends_by, turn_ends_by, other_code}
use Rattle.el_machine.proofs.Holds.{Terms, Does, does-gives, does-do, goes-gives, goes-ends, goes-spent, goes-takes, goes-act, Now, Kept, Goes, goes-then}
use Rattle.el_machine.specs.Starts.{StartsWith}

-- ---- words that a process may be started with

-- all that the program may start
abbrev pub CanStart : Terms → Prog → Read → Type 0
CanStart terms program read = (words : List (List ℕ)) → StartsWith program read words → terms.may_start words

-- so it may start a block
pub can-block : (terms : Terms) (program : Prog) (read : Read) → CanStart terms program read → have_trees_alone (shape_of program).places ≡ true → (nth : Nth) → block_at nth read ≢ [] → terms.may_start (block_at nth read)
can-block terms program read can trees nth some = can _ (record { some = some; which = inl (record { trees = trees; nth = nth; is = refl }) })

-- words that begin are some
∷≢[] : {word : List ℕ} {words : List (List ℕ)} → (word ∷ words) ≢ []
∷≢[] is = let no : ⊥ = cc in no

-- ---- what is said behind a call

-- an error tells that a call failed
abbrev pub Told : {T E : Type 0} → (ok : Bool) → Result T E → Type 0
Told ok (Ok value) = Unit {0}
Told ok (Err error) = ok ≡ false

-- and so does an input that isn't there
abbrev pub IsTold : {T : Type 0} → (ok : Bool) → Option T → Type 0
IsTold ok (Some value) = Unit {0}
IsTold ok None = ok ≡ false

-- an answer, behind which what is due is held
pub record Answered {T E : Type 0} (terms : Terms) (base : List Handle) (fds : List (Option Handle)) (answer : Result T E) (now : Now) : Type 0 where
  pub kept : Kept terms base fds now
  pub told : Told now.ok answer

-- an input that was read
pub record WasRead (terms : Terms) (base : List Handle) (fds : List (Option Handle)) (text : Option (List ℕ)) (now : Now) : Type 0 where
  pub kept : Kept terms base fds now
  pub told : IsTold now.ok text

-- the world gave it, and it is none of the base
pub record IsFresh (base : List Handle) (handle : Handle) : Type 0 where
  pub given : is_given handle ≡ true
  pub apart : is_held base handle ≡ false

-- a handle that was given is held besides the base
pub record Opened (terms : Terms) (base : List Handle) (fds : List (Option Handle)) (answer : Result Handle Fault) (now : Now) : Type 0 where
  pub kept : Kept terms (opened_handles answer ++ base) fds now
  pub fresh : terms.known → IfOk answer (IsFresh base)
  pub told : Told now.ok answer

-- and so are both ends of a new pipe
pub record Piped (terms : Terms) (base : List Handle) (fds : List (Option Handle)) (answer : Result PipeEnds Fault) (now : Now) : Type 0 where
  pub kept : Kept terms (piped_handles answer ++ base) fds now
  pub new : terms.known → IfOk answer (AreNew base)
  pub told : Told now.ok answer

-- behind an act of which nothing else matters
pub record Passed (terms : Terms) (base : List Handle) (fds : List (Option Handle)) (before now : Now) : Type 0 where
  pub kept : Kept terms base fds now
  pub later : before.ok ≡ false → now.ok ≡ false

-- behind a wait, or behind a child: an end with 111 is what a wait has just answered
pub record WasWaited (terms : Terms) (base : List Handle) (fds : List (Option Handle)) (answer : Result Ended Fault) (now : Now) : Type 0 where
  pub kept : Kept terms base fds now
  pub told : Told now.ok answer
  pub last : IfOk answer (λ ended. code_of ended ≡ 111 → EndsByWait now.told)

-- so it is where nothing failed
pub record WasChild (terms : Terms) (base : List Handle) (fds : List (Option Handle)) (ended : Ended) (now : Now) : Type 0 where
  pub kept : Kept terms base fds now
  pub last : code_of ended ≡ 111 → EndsByWait now.told

-- behind a wait for a turn of a loop that read this
pub record TurnWaited (terms : Terms) (base : List Handle) (fds : List (Option Handle)) (read : Read) (answer : Result Ended Fault) (now : Now) : Type 0 where
  pub kept : Kept terms base fds now
  pub told : Told now.ok answer
  pub turn : IfOk answer (λ ended. code_of ended ≡ 111 → HasTurn read now.told)

-- behind its start with these words
pub record TurnStarted (terms : Terms) (base : List Handle) (fds : List (Option Handle)) (words : List (List ℕ)) (answer : Result Started Fault) (now : Now) : Type 0 where
  pub kept : Kept terms base fds now
  pub told : Told now.ok answer
  pub started : IfOk answer (IsStarted words now.told)

-- behind what is told of a child that doesn't run
pub record WasUnstarted (terms : Terms) (base : List Handle) (fds : List (Option Handle)) (code : ℕ) (now : Now) : Type 0 where
  pub kept : Kept terms base fds now
  pub other : (code == 111) ≡ false

-- where all has gone well now, it had before
pub sooner : (before now : Bool) → (before ≡ false → now ≡ false) → now ≡ true → before ≡ true
sooner true now later is = refl
sooner false now later is = sym (later refl) ∙ is

-- what is told stays told
pub told_later : {T : Type 0} (value : Option T) {before now : Bool} → (before ≡ false → now ≡ false) → IsTold before value → IsTold now value
told_later None f told = f told
told_later (Some value) f told = tt

-- ---- calls

told : {T : Type 0} (test : T → Bool) (before : Bool) (answer : Result T Fault) → Told ((is_answer test answer && not (is_failed answer)) && before) answer
told test before (Ok value) = tt
told test before (Err CallFailed) = refl
told test before (Err NoMemory) = refl

told_start : (before : Bool) (answer : Result Pid StartFault) → Told ((is_start_answer answer && not (is_start_failed answer)) && before) (started_by answer)
told_start before (Ok pid) = tt
told_start before (Err StartNotFound) = tt
told_start before (Err StartNotStartable) = tt
told_start before (Err StartFailed) = refl
told_start before (Err NoStartMemory) = refl

fresh_handle : {base held : List Handle} {fds : List (Option Handle)} (answer : Result Handle Fault) (next : ℕ) → HoldsExactly base held fds → Rising 0 (opened_handles answer) next → are_fresh held (opened_handles answer) ≡ true
    → IfOk answer (IsFresh base)
fresh_handle {held = held} (Ok handle) next h rising fresh = record { given = given_above handle rising.0; apart = base_fresh h handle (not-true _ (left_of (not (is_held held handle)) true fresh)) }
fresh_handle (Err fault) next h rising fresh = tt

module _ {terms : Terms} {base : List Handle} {fds : List (Option Handle)} {now : Now} (h : Kept terms base fds now) where
  still : (ok : Bool) (told : List Event) → Kept terms base fds (record { held = now.held ++ []; ok = ok; told = told })
  still ok told = record { exact = λ s. none_given (h.exact s) }

  pub does-wait : (pid : Pid) → Does terms now (WasWaited terms base fds) (wait_act pid)
  unfolding wait_act
  does-wait pid = record { so = (tt, λ answer may. record { kept = still _ _; told = told is_wait_status now.ok answer; last = ends_by now.told pid answer }) }

  pub does-wait_turn : (read : Read) (value : List ℕ) (pid : Pid) → HasStart (turn_words read value) pid now.told → Does terms now (TurnWaited terms base fds read) (wait_act pid)
  unfolding wait_act
  does-wait_turn read value pid start = record { so = (tt, λ answer may. record { kept = still _ _; told = told is_wait_status now.ok answer; turn = turn_ends_by read value now.told pid answer start }) }

  pub does-enter : (dir path : List ℕ) → Does terms now (Answered terms base fds) (enter_act dir path)
  unfolding enter_act
  does-enter dir path = record { so = (tt, λ answer may. record { kept = still _ _; told = told (λ _. true) now.ok answer }) }

  pub does-read : (handle : Handle) → Does terms now (Answered terms base fds) (read_act handle)
  unfolding read_act
  does-read handle = record { so = (tt, λ answer may. record { kept = still _ _; told = told is_piece now.ok answer }) }

  pub does-open : (dir path : List ℕ) (mode : Mode) → Does terms now (Opened terms base fds) (open_act dir path mode)
  unfolding open_act
  does-open dir path mode = record {
    so = (
      tt,
      λ answer may. record {
        kept = record { exact = λ s. let may = may s in more_given (opened_handles answer) may.next may.rising may.fresh (h.exact s) };
        fresh = λ s. let may = may s in fresh_handle answer may.next (h.exact s) may.rising may.fresh;
        told = told (λ _. true) now.ok answer;
      },
    );
  }

  pub does-feed : (bytes : List ℕ) → Does terms now (Opened terms base fds) (feed_act bytes)
  unfolding feed_act
  does-feed bytes = record {
    so = (
      tt,
      λ answer may. record {
        kept = record { exact = λ s. let may = may s in more_given (opened_handles answer) may.next may.rising may.fresh (h.exact s) };
        fresh = λ s. let may = may s in fresh_handle answer may.next (h.exact s) may.rising may.fresh;
        told = told (λ _. true) now.ok answer;
      },
    );
  }

  pub does-pipe : Does terms now (Piped terms base fds) pipe_act
  unfolding pipe_act
  does-pipe = record {
    so = (
      tt,
      λ answer may. record {
        kept = record { exact = λ s. let may = may s in more_given (piped_handles answer) may.next may.rising may.fresh (h.exact s) };
        new = λ s. let may = may s in ends_new answer may.next (h.exact s) may.rising may.fresh;
        told = told (λ _. true) now.ok answer;
      },
    );
  }

  pub does-start : (words : List (List ℕ)) → terms.may_start words → (env : Vars) (dir : List ℕ) (streams : List (Option Handle)) → Does terms now (λ answer. Answered terms base fds (started_by answer)) (start_act words env dir streams)
  unfolding start_act
  does-start words can env dir streams = record { so = (can, λ answer may. record { kept = still _ _; told = told_start now.ok answer }) }

  pub does-starting : (words : List (List ℕ)) → (words ≢ [] → terms.may_start words) → (env : Vars) (dir : List ℕ) (streams : List (Option Handle)) → Does terms now (Answered terms base fds) (starting words env dir streams)
  unfolding starting
  does-starting [] can env dir streams = does-gives (record { kept = h; told = tt })
  does-starting (word ∷ words) can env dir streams = does-do (does-start (word ∷ words) (can ∷≢[]) env dir streams) (λ answer now p. does-gives (record { kept = p.kept; told = p.told }))

  pub does-start_turn : (words : List (List ℕ)) → (words ≢ [] → terms.may_start words) → (env : Vars) (dir : List ℕ) (streams : List (Option Handle)) → Does terms now (TurnStarted terms base fds words) (starting words env dir streams)
  unfolding starting start_act
  does-start_turn [] can env dir streams = does-gives (record { kept = h; told = tt; started = tt })
  does-start_turn (word ∷ words) can env dir streams =
      does-do {Q = λ answer. TurnStarted terms base fds (word ∷ words) (started_by answer)}
      (record { so = (can ∷≢[], λ answer may. record { kept = still _ _; told = told_start now.ok answer; started = starts_by now.told (word ∷ words) env dir streams answer }) })
      (λ answer now p. does-gives p)

  -- ---- messages

  pub does-complaint : (name : List ℕ) (trouble : Trouble) → Does terms now (λ _. Passed terms base fds now) (complaint fds name trouble)
  unfolding complaint write_act
  does-complaint name trouble = by (held_in fds 2)
    where
      by : (slot : Option Handle) → Does terms now (λ _. Passed terms base fds now) (written_to slot (message name trouble))
      by None = does-gives (record { kept = h; later = λ is. is })
      by (Some handle) = does-do {Q = λ _. Passed terms base fds now} (record { so = (tt, λ answer may. record { kept = still _ _; later = λ is. rw is (and_right _ false refl) }) }) (λ _ now p. does-gives p)

-- ---- closings

module _ {terms : Terms} {base : List Handle} {fds : List (Option Handle)} {now : Now} where
  pub does-closing : (handles : List Handle) → (terms.known → (held : List Handle) → HoldsOthers handles now.held held → HoldsExactly base held fds) → Does terms now (λ _. Passed terms base fds now) (closing handles)
  does-closing handles f = record { so = holds-closing terms handles now (λ _. Passed terms base fds now) (λ after closed. record { kept = record { exact = λ s. f s after.held closed.held }; later = λ is. closed.ok ∙ is }) }

  -- a handle that no number holds
  pub does-close : (handle : Handle) → (terms.known → is_held base handle ≡ false) → Kept terms (handle ∷ base) fds now → Does terms now (λ _. Passed terms base fds now) (close_act handle)
  unfolding close_act
  does-close handle apart h = record { so = (tt, λ answer may. record { kept = record { exact = λ s. file_closed handle (apart s) (h.exact s) }; later = λ is. is }) }

-- ---- changes of numbers

-- new handles are taken, and lost ones closed; at an end other ones may be due
pub goes-changed : {terms : Terms} {A : Type 0} {cause : Now → Type 0} {base due : List Handle} {P : A → Now → Type 0} {now : Now} (new : List Handle) (state : State) (after : List (Option Handle)) (next : State → Task A) → (terms.known → Takes new base state.fds after) → Kept terms (new ++ base) state.fds now
    → ((now : Now) → Kept terms base after now → Goes terms cause due now P (next (record state { fds = after }))) → Goes terms cause due now P (changed state after next)
goes-changed {base = base} {now = now} new state after next takes h goes =
    goes-act (does-closing {base = base} {fds = after} (lost_handles state.fds after) (λ s held others. changed_exactly new base now.held state.fds after (takes s) (h.exact s) held others)) (λ _ now p. goes now p.kept)

-- ---- refusals

-- a trouble that has another status than 111
abbrev pub IsOther : Trouble → Type 0
IsOther NotOpen = ⊥
IsOther Failed = ⊥
IsOther _ = Unit {0}

pub other_status : (trouble : Trouble) → IsOther trouble → (trouble_status trouble == 111) ≡ false
unfolding trouble_status
other_status NotOpen other = absurd other
other_status Failed other = absurd other
other_status CommandNotFound other = refl
other_status CommandNotStartable other = refl
other_status _ other = refl

module _ {terms : Terms} {A : Type 0} {cause : Now → Type 0} {base : List Handle} {P : A → Now → Type 0} {now : Now} (state : State) (name : List ℕ) where
  pub goes-refusal : (trouble : Trouble) → (now.ok ≡ true → trouble_status trouble ≡ 111 → (after : Now) → cause after) → Kept terms base state.fds now → Goes terms cause base now P (refused state name trouble)
  unfolding refused
  goes-refusal trouble why h = goes-act (does-complaint h name trouble) (λ _ after p. goes-ends p.kept (λ ok is. why (sooner now.ok after.ok p.later ok) is after))

  pub goes-refused : (trouble : Trouble) → IsOther trouble → Kept terms base state.fds now → Goes terms cause base now P (refused state name trouble)
  goes-refused trouble other = goes-refusal trouble (λ _ is. absurd (other_code (trouble_status trouble) (other_status trouble other) is))

  -- a call failed
  pub goes-failed : now.ok ≡ false → Kept terms base state.fds now → Goes terms cause base now P (refused state name Failed)
  goes-failed failed = goes-refusal Failed (λ ok _. absurd (true≢false (sym ok ∙ failed)))

-- ---- children

module _ {terms : Terms} {base : List Handle} {fds : List (Option Handle)} where
  does-failing : {now : Now} (name : List ℕ) → now.ok ≡ false → Kept terms base fds now → Does terms now (WasWaited terms base fds) (failing fds name)
  unfolding failing
  does-failing name failed h = does-do (does-complaint h name _) (λ _ now p. does-gives (record { kept = p.kept; told = p.later failed; last = tt }))

  does-unstarted : {now : Now} (command : List ℕ) (trouble : Trouble) → IsOther trouble → Kept terms base fds now → Does terms now (WasWaited terms base fds) (unstarted fds command trouble)
  unfolding unstarted
  does-unstarted command trouble other h = does-do (does-complaint h command trouble) (λ _ now p. does-gives (record { kept = p.kept; told = tt; last = λ is. absurd (other_code (trouble_status trouble) (other_status trouble other) is) }))

  pub does-unstarted_code : {now : Now} (command : List ℕ) (started : Started) → Kept terms base fds now → Does terms now (WasUnstarted terms base fds) (unstarted_code fds command started)
  unfolding unstarted_code
  does-unstarted_code command Empty h = does-gives (record { kept = h; other = refl })
  does-unstarted_code command (Running pid) h = does-gives (record { kept = h; other = refl })
  does-unstarted_code command NotFound h = does-do (does-complaint h command CommandNotFound) (λ _ now p. does-gives (record { kept = p.kept; other = other_status CommandNotFound tt }))
  does-unstarted_code command NotStartable h = does-do (does-complaint h command CommandNotStartable) (λ _ now p. does-gives (record { kept = p.kept; other = other_status CommandNotStartable tt }))

  does-waited : {now : Now} (name : List ℕ) (pid : Pid) → Kept terms base fds now → Does terms now (WasWaited terms base fds) (waited_for fds name pid)
  unfolding waited_for
  does-waited name pid h = does-do (does-wait h pid) by
    where
      by : (answer : Result Ended Fault) (now : Now) → WasWaited terms base fds answer now → Does terms now (WasWaited terms base fds) (children.after_wait fds name answer)
      by (Ok ended) now p = does-gives p
      by (Err fault) now p = does-failing name p.told p.kept

  does-started : (name command : List ℕ) (answer : Result Started Fault) (now : Now) → Answered terms base fds answer now → Does terms now (WasWaited terms base fds) (children.after_start fds name command answer)
  does-started name command (Ok Empty) now p = does-gives (record { kept = p.kept; told = tt; last = λ is. absurd (other_code 0 refl is) })
  does-started name command (Ok (Running pid)) now p = does-waited name pid p.kept
  does-started name command (Ok NotFound) now p = does-unstarted command CommandNotFound tt p.kept
  does-started name command (Ok NotStartable) now p = does-unstarted command CommandNotStartable tt p.kept
  does-started name command (Err fault) now p = does-failing name p.told p.kept

module _ {terms : Terms} {cause : Now → Type 0} {base : List Handle} {now : Now} (state : State) (name : List ℕ) (words : List (List ℕ)) (can : words ≢ [] → terms.may_start words) (h : Kept terms base state.fds now) where
  goes-child_with : (env : Vars) (streams : List (Option Handle)) → Goes terms cause base now (WasChild terms base state.fds) (child_with state name words env streams)
  unfolding child_with running
  goes-child_with env streams = goes-act (does-do (does-starting h words can env state.dir streams) (does-started name (first_word words))) by
    where
      by : (answer : Result Ended Fault) (now : Now) → WasWaited terms base state.fds answer now → Goes terms cause base now (WasChild terms base state.fds) (unless_failed state answer)
      by (Ok ended) now p = goes-gives (record { kept = p.kept; last = p.last })
      by (Err fault) now p = goes-ends p.kept (λ ok is. absurd (true≢false (sym ok ∙ p.told)))

  pub goes-child : Goes terms cause base now (WasChild terms base state.fds) (child state name words)
  goes-child = goes-child_with state.env (streams_of state)

-- ---- inputs

-- the end of a spent budget is due in any case, so that more may be held here than at other ends
module _ {terms : Terms} {cause : Now → Type 0} {base due : List Handle} (state : State) (handle : Handle) where
  goes-gathered : (count : ℕ) (before : List ℕ) (now : Now) → Kept terms base state.fds now → Goes terms cause due now (WasRead terms base state.fds) (gathered count state handle before)
  unfolding gathered
  goes-gathered Prim.Native.Nat.zero before now h = goes-spent
  goes-gathered (suc count) before now h = goes-takes (goes-act (does-read h handle) (by (goes-gathered count)))
    where
      by : ((read : List ℕ) (now : Now) → Kept terms base state.fds now → Goes terms cause due now (WasRead terms base state.fds) (gathered count state handle read)) → (answer : Result (List ℕ) Fault) (now : Now) → Answered terms base state.fds answer now
          → Goes terms cause due now (WasRead terms base state.fds) (after_read (λ read. gathered count state handle read) before answer)
      by next (Ok []) now p = goes-gives (record { kept = p.kept; told = tt })
      by next (Ok (byte ∷ bytes)) now p = next (before ++ byte ∷ bytes) now p.kept
      by next (Err fault) now p = goes-gives (record { kept = p.kept; told = p.told })

  pub goes-input : {now : Now} → Kept terms base state.fds now → Goes terms cause due now (WasRead terms base state.fds) (whole_input state handle)
  unfolding whole_input
  goes-input h = goes-gathered most_units [] _ h

-- ---- fronts

-- the state behind a program
abbrev pub state_behind : Way → State
state_behind (onward state) = state
state_behind (under pairs state) = state
state_behind (into block state) = state

-- how a process goes on behind a program
pub record Behind (terms : Terms) (base : List Handle) (program : Prog) (before : State) (way : Way) (now : Now) : Type 0 where
  pub kept : Kept terms base (state_behind way).fds now
  pub may : MayChange program before (state_behind way)
  pub go : MayGo program way

-- a task that goes on so, or ends the process as is due
abbrev pub GoesOn : (terms : Terms) → (cause : Now → Type 0) → List Handle → Now → Prog → State → Task Way → Type 0
GoesOn terms cause base now program state task = Goes terms cause base now (Behind terms base program state) task

-- the process goes on with the rest
pub goes-on : {terms : Terms} {cause : Now → Type 0} {base : List Handle} {now : Now} {program : Prog} {before after : State} → (shape_of program).rest ≡ Chain → MayChange program before after → Kept terms base after.fds now → GoesOn terms cause base now program before (on after)
goes-on chain may h = goes-gives (record { kept = h; may = may; go = chain })

-- what is left behind a program
pub record LeftBehind (terms : Terms) (base : List Handle) (program : Prog) (before : State) (left : Left) (now : Now) : Type 0 where
  pub kept : Kept terms base left.state.fds now
  pub may : MayChange program before left.state

-- what a program reads in these words
pub record HasRead (program : Prog) (words : List (List ℕ)) (state : State) (read : Read) : Type 0 where
  pub warned : ℕ
  pub told : front_told (strictness_of state.env) program words ≡ reads warned read

-- and then exactly what is due is held
pub record HasFront (terms : Terms) (base : List Handle) (program : Prog) (words : List (List ℕ)) (state : State) (read : Read) (now : Now) : Type 0 where
  pub kept : Kept terms base state.fds now
  pub has : HasRead program words state read

-- what lacks at a front is no call that failed
other_lack : (lack : Lack) → IsOther (trouble_of lack)
other_lack (KnownLetter letter) = tt
other_lack (LetterValue letter) = tt
other_lack RightUse = tt
other_lack GoodNumber = tt
other_lack Present = tt
other_lack Terminated = tt
other_lack Quoted = tt
other_lack DirectiveName = tt

does-warnings : {terms : Terms} {base : List Handle} {fds : List (Option Handle)} (name : List ℕ) (count : ℕ) (now : Now) → Kept terms base fds now → Does terms now (λ _. Kept terms base fds) (warnings fds name count)
unfolding warnings
does-warnings name Prim.Native.Nat.zero now h = does-gives h
does-warnings name (suc count) now h = does-do (does-complaint h name _) (λ _ now p. does-warnings name count now p.kept)

module _ {terms : Terms} {cause : Now → Type 0} {base : List Handle} {now : Now} (program : Prog) (words : List (List ℕ)) (state : State) where
  goes-telling : (front : Front Taken) → front_of (strictness_of state.env) program (drop 1 words) ≡ front → Kept terms base state.fds now
      → Goes terms cause base now (HasFront terms base program words state) (after_telling program state (told_by program front))
  unfolding after_telling
  goes-telling (Lacking warned lack) is h = goes-act (does-warnings (name_text program) warned _ h) (λ _ now k. goes-refused state (name_text program) (trouble_of lack) (other_lack lack) k)
  goes-telling (Whole warned taken) is h = goes-act (does-warnings (name_text program) warned _ h) (λ _ now k. goes-gives (record { kept = k; has = record { warned = warned; told = ap (told_by program) is } }))

  goes-reading : Kept terms base state.fds now → Goes terms cause base now (HasFront terms base program words state) (reading program words state)
  unfolding reading
  goes-reading h = goes-telling (front_of (strictness_of state.env) program (drop 1 words)) refl h

  pub goes-entered : (effect : Effect) → ((read : Read) (now : Now) → HasRead program words state read → Kept terms base state.fds now → GoesOn terms cause base now program state (effect read state))
      → Kept terms base state.fds now → Goes terms cause base now (LeftBehind terms base program state) (entered effect program words state)
  unfolding entered acting
  goes-entered effect acts h = goes-then (goes-reading h) (λ read now p. goes-then (acts read now p.has p.kept) (λ way now q. goes-gives (by read way now q)))
    where
      by : (read : Read) (way : Way) (now : Now) → Behind terms base program state way now → LeftBehind terms base program state (left_by read way) now
      by read (onward after) now q = record { kept = q.kept; may = q.may }
      by read (under pairs after) now q = record { kept = q.kept; may = q.may }
      by read (into block after) now q = record { kept = q.kept; may = q.may }

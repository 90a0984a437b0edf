-- What all programs share: single calls, messages, children, inputs and fronts.
use Rattle.el_room.proofs.Vocabulary.{Prog, name_text, Vars, Ended, Start, Fault, Handle, Mode, Pid, StartFault, NotFound as StartNotFound, NotStartable as StartNotStartable, Act, start_act, wait_act, open_act, pipe_act, feed_act, read_act, write_act, close_act, enter_act, gives, State, Started, Empty, Running, Trouble, Failed, starting, started_by, unstarted_code, failing, waited_for, unstarted, running, unless_failed, child_with, child, first_word, held_in, streams_of, closing, after_read, gathered, most_units, whole_input, Left, written_to, complaint, message, refused, Told, complains, reads, warnings, after_telling, front_told, strictness_of, Read, Way, onward, under, into, Effect, left_by, acting, entered}
use Rattle.std.proofs.Common.{◌≡◌, ℕ, suc, ◌<◌, List, [], ◌∷◌, ◌++◌, Option, Some, None, Result, Ok, Err, refl, sym, ◌∙◌, subst}
use Rattle.el_world.specs.declared.event.StartFault.TheVariants.{Failed as StartFailed, NoMemory as StartNoMemory}
use Rattle.el_world.specs.Acts as act
use Rattle.el_proc.specs.declared.child.Started.TheVariants.{NotFound, NotStartable}
use Rattle.el_proc.specs.declared.trouble.Trouble.TheVariants.{NotFound as CommandNotFound, NotStartable as CommandNotStartable}
use Rattle.el_proc.specs.Children as children
use Rattle.el_front.specs.Fronts.{reading}
use Rattle.el_app.proofs.Owed.{Owed, more, less, owed_after, WaitsAct, Waits, Still, act-gives, act-do, act-still, waits-gives, waits-ends, waits-takes, waits-both, waits-behind, waits-after, back, is-owed}
use Rattle.el_app.proofs.OwedKids.{AreKids, KeepsKids}

-- ---- single calls

module _ {owed : Owed} where
  pub still-open : (dir path : List ℕ) (mode : Mode) → WaitsAct owed (Still owed) (open_act dir path mode)
  unfolding open_act
  still-open dir path mode = record { so = (tt, λ answer. refl) }

  pub still-pipe : WaitsAct owed (Still owed) pipe_act
  unfolding pipe_act
  still-pipe = record { so = (tt, λ answer. refl) }

  pub still-feed : (bytes : List ℕ) → WaitsAct owed (Still owed) (feed_act bytes)
  unfolding feed_act
  still-feed bytes = record { so = (tt, λ answer. refl) }

  pub still-read : (handle : Handle) → WaitsAct owed (Still owed) (read_act handle)
  unfolding read_act
  still-read handle = record { so = (tt, λ answer. refl) }

  pub still-write : (handle : Handle) (bytes : List ℕ) → WaitsAct owed (Still owed) (write_act handle bytes)
  unfolding write_act
  still-write handle bytes = record { so = (tt, λ answer. refl) }

  pub still-close : (handle : Handle) → WaitsAct owed (Still owed) (close_act handle)
  unfolding close_act
  still-close handle = record { so = (tt, λ answer. refl) }

  pub still-enter : (dir path : List ℕ) → WaitsAct owed (Still owed) (enter_act dir path)
  unfolding enter_act
  still-enter dir path = record { so = (tt, λ answer. refl) }

  -- a wait for a process that is owed
  pub waits-one : (pid : Pid) → 0 < owed pid.number → WaitsAct owed (λ _ later. later ≡ less owed pid) (wait_act pid)
  unfolding wait_act
  waits-one pid may = record { so = (may, λ answer. refl) }

  -- ---- acts that start nothing and wait for nothing

  pub still-closing : (handles : List Handle) → WaitsAct owed (Still owed) (closing handles)
  unfolding closing
  still-closing [] = act-gives refl
  still-closing (handle ∷ handles) = act-still (still-close handle) (λ _. still-closing handles)

  still-written : (slot : Option Handle) (text : List ℕ) → WaitsAct owed (Still owed) (written_to slot text)
  still-written None text = act-gives refl
  still-written (Some handle) text = act-still (still-write handle text) (λ _. act-gives refl)

  pub still-complaint : (fds : List (Option Handle)) (name : List ℕ) (trouble : Trouble) → WaitsAct owed (Still owed) (complaint fds name trouble)
  unfolding complaint
  still-complaint fds name trouble = still-written (held_in fds 2) (message name trouble)

  pub waits-refused : {A : Type 0} {P : A → Owed → Type 0} (state : State) (name : List ℕ) (trouble : Trouble) → Waits owed P (refused state name trouble)
  unfolding refused
  waits-refused state name trouble = waits-behind (still-complaint state.fds name trouble) (λ _. waits-ends)

  pub still-unstarted : (fds : List (Option Handle)) (command : List ℕ) (started : Started) → WaitsAct owed (Still owed) (unstarted_code fds command started)
  unfolding unstarted_code
  still-unstarted fds command Empty = act-gives refl
  still-unstarted fds command (Running pid) = act-gives refl
  still-unstarted fds command NotFound = act-still (still-complaint fds command CommandNotFound) (λ _. act-gives refl)
  still-unstarted fds command NotStartable = act-still (still-complaint fds command CommandNotStartable) (λ _. act-gives refl)

-- ---- starts

-- a process that runs is owed
abbrev pub StartsOne : Owed → Started → Owed → Type 0
StartsOne owed (Running pid) later = later ≡ more owed pid
StartsOne owed _ later = later ≡ owed

abbrev pub MayStartOne : Owed → Result Started Fault → Owed → Type 0
MayStartOne owed (Ok started) later = StartsOne owed started later
MayStartOne owed (Err fault) later = later ≡ owed

abbrev pub OwesAnswer : Owed → Result Pid StartFault → Owed → Type 0
OwesAnswer owed (Ok pid) later = later ≡ more owed pid
OwesAnswer owed (Err fault) later = later ≡ owed

module _ {owed : Owed} (words : List (List ℕ)) (env : Vars) (dir : List ℕ) (streams : List (Option Handle)) where
  pub waits-start : WaitsAct owed (OwesAnswer owed) (start_act words env dir streams)
  unfolding start_act
  waits-start = record { so = (tt, by) }
    where
      by : (answer : Result Pid StartFault) → OwesAnswer owed answer (owed_after owed (Start words env dir streams answer))
      by (Ok pid) = refl
      by (Err fault) = refl

start-told : {owed : Owed} (answer : Result Pid StartFault) (later : Owed) → OwesAnswer owed answer later → WaitsAct later (MayStartOne owed) (act.gives (started_by answer))
start-told (Ok pid) later is = act-gives is
start-told (Err StartNotFound) later is = act-gives is
start-told (Err StartNotStartable) later is = act-gives is
start-told (Err StartFailed) later is = act-gives is
start-told (Err StartNoMemory) later is = act-gives is

pub waits-starting : {owed : Owed} (words : List (List ℕ)) (env : Vars) (dir : List ℕ) (streams : List (Option Handle)) → WaitsAct owed (MayStartOne owed) (starting words env dir streams)
unfolding starting
waits-starting [] env dir streams = act-gives refl
waits-starting (word ∷ words) env dir streams = act-do (waits-start (word ∷ words) env dir streams) start-told

-- ---- children

-- from here on as much is owed as there
from : {A : Type 0} {P : A → Owed → Type 0} {done : Act A} {there here : Owed} → here ≡ there → WaitsAct there P done → WaitsAct here P done
from {P = P} {done} is one = subst (λ owed. WaitsAct owed P done) (sym is) one

module _ {owed : Owed} where
  still-failing : (fds : List (Option Handle)) (name : List ℕ) → WaitsAct owed (Still owed) (failing fds name)
  unfolding failing
  still-failing fds name = act-still (still-complaint fds name Failed) (λ _. act-gives refl)

  still-waited : (fds : List (Option Handle)) (name : List ℕ) (answer : Result Ended Fault) → WaitsAct owed (Still owed) (children.after_wait fds name answer)
  still-waited fds name (Ok ended) = act-gives refl
  still-waited fds name (Err fault) = still-failing fds name

  -- a process that was started is waited for
  waits-own : (fds : List (Option Handle)) (name : List ℕ) (pid : Pid) → WaitsAct (more owed pid) (Still owed) (waited_for fds name pid)
  unfolding waited_for
  waits-own fds name pid = act-do (waits-one pid (is-owed owed pid)) (λ answer later is. subst (λ later. WaitsAct later (Still owed) (children.after_wait fds name answer)) (sym (is ∙ back owed pid)) (still-waited fds name answer))

  still-unstarted_child : (fds : List (Option Handle)) (command : List ℕ) (trouble : Trouble) → WaitsAct owed (Still owed) (unstarted fds command trouble)
  unfolding unstarted
  still-unstarted_child fds command trouble = act-still (still-complaint fds command trouble) (λ _. act-gives refl)

  child-started : (fds : List (Option Handle)) (name command : List ℕ) (answer : Result Started Fault) (later : Owed) → MayStartOne owed answer later → WaitsAct later (Still owed) (children.after_start fds name command answer)
  child-started fds name command (Ok Empty) later is = from is (act-gives refl)
  child-started fds name command (Ok (Running pid)) later is = from is (waits-own fds name pid)
  child-started fds name command (Ok NotFound) later is = from is (still-unstarted_child fds command CommandNotFound)
  child-started fds name command (Ok NotStartable) later is = from is (still-unstarted_child fds command CommandNotStartable)
  child-started fds name command (Err fault) later is = from is (still-failing fds name)

  still-child_with : (state : State) (name : List ℕ) (words : List (List ℕ)) (env : Vars) (streams : List (Option Handle)) → Waits owed (Still owed) (child_with state name words env streams)
  unfolding child_with running
  still-child_with state name words env streams = waits-behind (act-do (waits-starting words env state.dir streams) (child-started state.fds name (first_word words))) by
    where
      by : (answer : Result Ended Fault) → Waits owed (Still owed) (unless_failed state answer)
      by (Ok ended) = waits-gives refl
      by (Err fault) = waits-ends

  pub still-child : (state : State) (name : List ℕ) (words : List (List ℕ)) → Waits owed (Still owed) (child state name words)
  still-child state name words = still-child_with state name words state.env (streams_of state)

-- ---- inputs

module _ {owed : Owed} (state : State) (handle : Handle) where
  still-gathered : (times : ℕ) (before : List ℕ) → Waits owed (Still owed) (gathered times state handle before)
  unfolding gathered
  still-gathered Prim.Native.Nat.zero before = waits-ends
  still-gathered (suc times) before = waits-takes (waits-behind (still-read handle) (λ answer. by answer (λ read. still-gathered times read)))
    where
      by : (answer : Result (List ℕ) Fault) → ((read : List ℕ) → Waits owed (Still owed) (gathered times state handle read)) → Waits owed (Still owed) (after_read (λ read. gathered times state handle read) before answer)
      by (Ok []) next = waits-gives refl
      by (Ok (byte ∷ bytes)) next = next (before ++ byte ∷ bytes)
      by (Err fault) next = waits-gives refl

  pub still-input : Waits owed (Still owed) (whole_input state handle)
  unfolding whole_input
  still-input = still-gathered most_units []

-- ---- fronts

-- the kids of what is left are owed
abbrev pub LeftKids : Left → Owed → Type 0
LeftKids left later = AreKids left.state.kids later

left-kids : (read : Read) (way : Way) (later : Owed) → KeepsKids way later → Waits later LeftKids (gives (left_by read way))
left-kids read (onward state) later h = waits-gives h
left-kids read (under pairs state) later h = waits-gives h
left-kids read (into block state) later h = waits-gives h

module _ {owed : Owed} where
  still-warnings : (fds : List (Option Handle)) (name : List ℕ) (count : ℕ) → WaitsAct owed (Still owed) (warnings fds name count)
  unfolding warnings
  still-warnings fds name Prim.Native.Nat.zero = act-gives refl
  still-warnings fds name (suc count) = act-still (still-complaint fds name _) (λ _. still-warnings fds name count)

  still-told : (program : Prog) (state : State) (told : Told) → Waits owed (Still owed) (after_telling program state told)
  unfolding after_telling
  still-told program state (complains warned trouble) = waits-behind (still-warnings state.fds (name_text program) warned) (λ _. waits-refused state (name_text program) trouble)
  still-told program state (reads warned read) = waits-behind (still-warnings state.fds (name_text program) warned) (λ _. waits-gives refl)

  still-reading : (program : Prog) (words : List (List ℕ)) (state : State) → Waits owed (Still owed) (reading program words state)
  unfolding reading
  still-reading program words state = still-told program state (front_told (strictness_of state.env) program words)

  pub waits-entered : (effect : Effect) (program : Prog) (words : List (List ℕ)) (state : State) → ((read : Read) → Waits owed KeepsKids (effect read state)) → Waits owed LeftKids (entered effect program words state)
  unfolding entered acting
  waits-entered effect program words state acts = waits-after (still-reading program words state) (λ read. waits-both (acts read) (left-kids read))

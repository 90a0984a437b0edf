-- A step and the run of many: what is held behind them, what a step changes, and why it ends with 111.
use Rattle.el_room.proofs.Vocabulary.{Prog, program_named, Ended, Event, Fault, Handle, Pid, StartFault, NotFound as StartNotFound, NotStartable as StartNotStartable, Finish, Spent, NoMemory, Seen, Outcome, Ran, State, Task, came_out, Follows, follows_units, Next, Go, first_word, started_by, streams_of, given_handles, without_given, most_units, Left, way_of}
use Rattle.std.proofs.Common.{◌≡◌, ℕ, suc, ◌≤◌, List, [], ◌∷◌, Option, Some, None, Result, Ok, Err, subst}
use Rattle.el_world.specs.declared.finish.Finish.TheVariants.{Status}
use Rattle.el_world.specs.declared.event.StartFault.TheVariants.{Failed as StartFailed, NoMemory as StartNoMemory}
use Rattle.el_world.specs.States as end
use Rattle.el_proc.specs.declared.next.Next.TheVariants.{End, Spent as NextSpent, NoMemory as NextNoMemory}
use Rattle.el_proc.specs.declared.trouble.Trouble.TheVariants.{NotFound, NotStartable}
use Rattle.el_machine.specs.Commands.{after_wait, waiting, after_start, running, last_command}
use Rattle.el_machine.specs.Flat.{flat_step, first_program, run_by, flat_within, flat_run}
use Rattle.el_machine.specs.Exact.{HoldsBehind, HoldsAtEnd, HoldsExactly}
use Rattle.el_machine.specs.Changes.{ChangesBehind}
use Rattle.el_machine.specs.Causes.{NoneFailed, EndsByWait, EndsWith111, HasCause, HasCauseUnlessFailed}
use Rattle.el_machine.proofs.ExactChanges.{given_closed}
use Rattle.el_machine.proofs.Holds.{Terms, knowing, Ending, goes-ends, goes-spent, goes-takes, goes-act, Now, Kept, Goes, goes-then}
use Rattle.el_machine.proofs.HoldsRuns.{behind_all, told_first, HoldsOut, all-succeed, none-failed, holds-ran, held-added, went-well-first, at_first}
use Rattle.el_machine.proofs.HoldsTasks.{Answered, WasWaited, LeftBehind, does-wait, does-start, does-closing, goes-failed, goes-refused}
use Rattle.el_machine.proofs.HoldsPrograms.{goes-step}

-- ---- a step

module _ {old new : Seen} (program : Prog) (words : List (List ℕ)) (before : State) where
  -- how it comes out
  step_out : (known : Type 0) (cause : Now → Type 0) (base : List Handle) → ((now : Now) → EndsWith111 program words before now.told → cause now) → (known → HoldsExactly base old.held before.fds) → {units left : ℕ} {out : Outcome end.End Left} (ran : Ran old new (flat_step program words before) units (Some out) left)
      → HoldsOut (LeftBehind (knowing known) base program before) (Ending (knowing known) cause base) out (behind_all (at_first old.held) ran.events)
  step_out known cause base why h ran = let goes = goes-step {terms = knowing known} {now = at_first old.held} program words before (λ read has words starts. tt) why (record { exact = h }) in holds-ran _ _ (knowing known) goes.so ran

module _ {old new : Seen} (program : Prog) (words : List (List ℕ)) (before after : State) where
  -- what is held behind it
  pub step_exactly : {base : List Handle} (result : Next) (rest : List (List ℕ)) {units left : ℕ} → Follows old new (flat_step program words before) units (way_of result) (λ _. record { words = rest; state = after }) after left
      → HoldsExactly base old.held before.fds → HoldsBehind result base new.held after.fds
  unfolding came_out
  step_exactly {base} Go rest p h = let out = step_out program words before (Unit {0}) (λ _. Unit {0}) base (λ _ _. tt) (λ _. h) p.ran in subst (λ held. HoldsExactly base held after.fds) (held-added p.ran.events p.ran.added) (out.kept.exact tt)
  step_exactly {base} (End code) rest p h = let out = step_out program words before (Unit {0}) (λ _. Unit {0}) base (λ _ _. tt) (λ _. h) p.ran in subst (λ held. HoldsExactly base held after.fds) (held-added p.ran.events p.ran.added) (out.exact tt)
  step_exactly NextSpent rest p h = tt
  step_exactly NextNoMemory rest p h = tt

  -- what it changes
  pub step_changes : (result : Next) (rest : List (List ℕ)) {units left : ℕ} → Follows old new (flat_step program words before) units (way_of result) (λ _. record { words = rest; state = after }) after left → ChangesBehind result program before after
  unfolding came_out
  step_changes Go rest p = let out = step_out program words before ⊥ (λ _. Unit {0}) [] (λ _ _. tt) (λ never. absurd never) p.ran in out.may
  step_changes (End code) rest p = tt
  step_changes NextSpent rest p = tt
  step_changes NextNoMemory rest p = tt

  -- why it ends with 111
  pub step_cause : (result : Next) (rest : List (List ℕ)) {units left : ℕ} → Follows old new (flat_step program words before) units (way_of result) (λ _. record { words = rest; state = after }) after left
      → result ≡ End 111 → HasCauseUnlessFailed old new (EndsWith111 program words before)
  unfolding came_out
  step_cause Go rest p is = let no : ⊥ = cc in absurd no
  step_cause (End code) rest p is =
      let out = step_out program words before ⊥ (λ now. EndsWith111 program words before now.told) [] (λ now why. why) (λ never. absurd never) p.ran in
      let added = p.ran.added in
      record {
        events = p.ran.events;
        added = added;
        cause = λ none. subst (λ events. EndsWith111 program words before events) (told_first old.held p.ran.events) (out.why (went-well-first old.held p.ran.events (all-succeed p.ran.events added.lawful none)) cc);
      }
  step_cause NextSpent rest p is = let no : ⊥ = cc in absurd no
  step_cause NextNoMemory rest p is = let no : ⊥ = cc in absurd no

-- by the count of faults
pub by_count : {old new : Seen} {Cause : List Event → Type 0} → HasCauseUnlessFailed old new Cause → NoneFailed old new → HasCause old new Cause
by_count h none = record { events = h.events; added = h.added; cause = h.cause (none-failed h.events h.added none) }

-- its units are never gained
pub step_units : {old new : Seen} {run : Task Left} {after : State} (result : Next) {behind : Unit {0} → Left} {units left : ℕ} → Follows old new run units (way_of result) behind after left → result ≡ Go → left ≤ units
step_units Go p is = follows_units p (λ same. never same)
  where
    never : ◌≡◌ {A = Result (Unit {0}) Finish} (Ok tt) (Err NoMemory) → ⊥
    never same = cc
step_units (End code) p is = let no : ⊥ = cc in absurd no
step_units NextSpent p is = let no : ⊥ = cc in absurd no
step_units NextNoMemory p is = let no : ⊥ = cc in absurd no

-- the program that words begin with is the one that their first word names
pub same_program : (words : List (List ℕ)) (program named : Prog) → first_program words ≡ Some program → Some named ≡ program_named (first_word words) → named ≡ program
same_program [] program named is names = let no : ⊥ = cc in absurd no
same_program (word ∷ words) program named is names = cc

-- ---- the last command

module _ {terms : Terms} {A : Type 0} {cause : Now → Type 0} {base : List Handle} {P : A → Now → Type 0} (why : (now : Now) → EndsByWait now.told → cause now) (state : State) where
  goes-waiting : {now : Now} (name : List ℕ) (pid : Pid) → Kept terms base state.fds now → Goes terms cause base now P (waiting state name pid)
  unfolding waiting
  goes-waiting name pid h = goes-act (does-closing (given_handles state.fds) (λ s held others. given_closed (h.exact s) held others)) (λ _ now p. goes-act (does-wait p.kept pid) by)
    where
      own : State
      own = record state { fds = without_given state.fds }

      by : (answer : Result Ended Fault) (now : Now) → WasWaited terms base own.fds answer now → Goes terms cause base now P (after_wait own name answer)
      by (Ok ended) now p = goes-ends p.kept (λ _ is. why now (p.last is))
      by (Err fault) now p = goes-failed own name p.told p.kept

  pub goes-last : {now : Now} (words : List (List ℕ)) → terms.may_start words → Kept terms base state.fds now → Goes terms cause base now P (last_command words state)
  unfolding last_command running
  goes-last words can h = goes-takes (goes-act (does-start h words can state.env state.dir (streams_of state)) by)
    where
      by : (answer : Result Pid StartFault) (now : Now) → Answered terms base state.fds (started_by answer) now → Goes terms cause base now P (after_start state (first_word words) answer)
      by (Ok pid) now p = goes-waiting (first_word words) pid p.kept
      by (Err StartNotFound) now p = goes-refused state (first_word words) NotFound tt p.kept
      by (Err StartNotStartable) now p = goes-refused state (first_word words) NotStartable tt p.kept
      by (Err StartFailed) now p = goes-failed state (first_word words) p.told p.kept
      by (Err StartNoMemory) now p = goes-failed state (first_word words) p.told p.kept

-- ---- the run of many

-- a run gives nothing
abbrev GoesRun : (known : Type 0) → List Handle → Now → Task ⊥ → Type 0
GoesRun known base now run = Goes (knowing known) (λ _. Unit {0}) base now (λ never now. Unit {0}) run

module _ {known : Type 0} {base : List Handle} where
  goes-by : {now : Now} (first : Option Prog) (words : List (List ℕ)) (state : State) (next : Left → Task ⊥) → ((left : Left) (now : Now) → Kept (knowing known) base left.state.fds now → GoesRun known base now (next left)) → Kept (knowing known) base state.fds now → GoesRun known base now (run_by first words state next)
  goes-by None [] state next goes h = goes-ends h (λ _ _. tt)
  goes-by None (word ∷ words) state next goes h = goes-last (λ _ _. tt) state (word ∷ words) tt h
  goes-by (Some program) words state next goes h = goes-then (goes-step program words state (λ read has words starts. tt) (λ _ _. tt) h) (λ left now p. goes left now p.kept)

  goes-within : (programs : ℕ) (words : List (List ℕ)) (state : State) (now : Now) → Kept (knowing known) base state.fds now → GoesRun known base now (flat_within programs words state)
  unfolding flat_within
  goes-within Prim.Native.Nat.zero words state now h = goes-spent
  goes-within (suc programs) words state now h =
      goes-by (first_program words) words state (λ left. flat_within programs left.words left.state) (λ left now k. goes-within programs left.words left.state now k) h

  pub goes-run : {now : Now} (words : List (List ℕ)) (state : State) → Kept (knowing known) base state.fds now → GoesRun known base now (flat_run words state)
  unfolding flat_run
  goes-run {now} words state h = goes-within most_units words state now h

-- what is held behind a run
pub run_exactly : {old new : Seen} {base : List Handle} (words : List (List ℕ)) (before after : State) (finish : Finish) {units left : ℕ}
    → Follows {A = ⊥} {B = ⊥} old new (flat_run words before) units (Err finish) (λ never. never) after left → HoldsExactly base old.held before.fds → HoldsAtEnd finish base new.held after.fds
unfolding came_out
run_exactly {old} {base = base} words before after (Status code) p h =
    let goes = goes-run {known = Unit {0}} {base = base} {now = at_first old.held} words before (record { exact = λ _. h }) in
    let out = holds-ran _ _ (knowing (Unit {0})) goes.so p.ran in
    subst (λ held. HoldsExactly base held after.fds) (held-added p.ran.events p.ran.added) (out.exact tt)
run_exactly words before after Spent p h = tt
run_exactly words before after NoMemory p h = tt

-- The programs of el_control.
use Rattle.el_room.proofs.Vocabulary.{name_text, Prog, Foreground, Background, If, Ifelse, Ifte, Ifthenelse, Cd, Exec, Exit, shape_of, Ended, Exited, Killed, Fault, Handle, Pid, gives, ends, State, Status, Started, BadNumber, first_word, streams_of, kid_of, kid_name, kid_text, without_pid, First, Read, has, the_text, text_at, block_at}
use Rattle.std.proofs.Common.{◌≡◌, ℕ, ◌+◌, Bool, true, false, List, [], ◌∷◌, Option, Some, None, Result, Ok, Err, refl, ap, ◌∙◌, true≢false, arith, codes, if◌then◌else◌, ◌≢◌, inr}
use Rattle.std.specs.FinMap as map
use Rattle.el_words.specs.declared.prog.Prog.TheVariants.{Wait}
use Rattle.el_control.specs.Exec.{exec}
use Rattle.el_control.specs.Exit.{exit, exit_code, exit_with}
use Rattle.el_control.specs.Foreground.{foreground}
use Rattle.el_control.specs.Ifelse.{ifelse}
use Rattle.el_control.specs.Ifte.{ifte}
use Rattle.el_control.specs.Ifthenelse.{branch, ifthenelse}
use Rattle.el_control.specs.Endings.{ended_text}
use Rattle.el_control.specs.Tests.{verdict, tested}
use Rattle.el_control.specs.Background as started
use Rattle.el_control.specs.Background.{starting_kid, background}
use Rattle.el_control.specs.If as if_
use Rattle.el_control.specs.If.{failed_status, if_then}
use Rattle.el_control.specs.Ifelse as ifelse_
use Rattle.el_control.specs.Wait as waited
use Rattle.el_control.specs.Wait.{wait, waiting_one, waiting_for, waiting, waiting_if, waited_numbers, are_numbers}
use Rattle.el_control.specs.Cd.{after_enter, cd}
use Rattle.el_machine.specs.Changes.{RemovesOnly}
use Rattle.el_machine.proofs.ChangesVariables.{only_set, removes_nothing, removes_all}
use Rattle.el_machine.proofs.Holds.{Terms, goes-gives, goes-ends, goes-act, Now, Kept, Goes, goes-then}
use Rattle.el_machine.proofs.HoldsTasks.{Answered, WasWaited, GoesOn, does-wait, does-enter, does-starting, does-unstarted_code, goes-failed, goes-child, goes-on, goes-refused, CanStart, can-block}
use Rattle.el_machine.proofs.MayChanges.{unchanged, other_variables}

module _ {terms : Terms} {cause : Now → Type 0} {base : List Handle} {now : Now} where
  pub goes-foreground : (state : State) (read : Read) → CanStart terms Foreground read → Kept terms base state.fds now → GoesOn terms cause base now Foreground state (foreground read state)
  unfolding foreground shape_of
  goes-foreground state read can h = goes-then (goes-child state (name_text Foreground) (block_at First read) (can-block terms Foreground read can refl First) h) (λ ended now k. goes-on refl (other_variables Foreground state _ (only_set state.env (codes "?") (ended_text ended))) k.kept)

  pub goes-cd : (state : State) (read : Read) → Kept terms base state.fds now → GoesOn terms cause base now Cd state (cd read state)
  unfolding cd shape_of
  goes-cd state read h = goes-act (does-enter h state.dir (the_text First read)) by
    where
      by : (answer : Result (List ℕ) Fault) (now : Now) → Answered terms base state.fds answer now → GoesOn terms cause base now Cd state (after_enter state answer)
      by (Ok dir) now p = goes-on refl (record { variables = refl; directory = λ no. absurd (true≢false no); descriptors = λ no. refl; kids = λ no. refl }) p.kept
      by (Err fault) now p = goes-failed state (name_text Cd) p.told p.kept

  pub goes-exec : (state : State) (read : Read) → Kept terms base state.fds now → GoesOn terms cause base now Exec state (exec read state)
  unfolding exec shape_of
  goes-exec state read h = goes-on refl (other_variables Exec state _ (by (has (codes "c") read))) h
    where
      by : (empties : Bool) → RemovesOnly state.env (if empties then map.empty else state.env)
      by true = removes_all state.env
      by false = removes_nothing state.env

  -- its code is its own
  pub goes-exit : (state : State) (read : Read) → ((now : Now) → exit_code (text_at First read) ≡ Some 111 → cause now) → Kept terms base state.fds now → GoesOn terms cause base now Exit state (exit read state)
  unfolding exit
  goes-exit state read own h = by (exit_code (text_at First read)) refl
    where
      by : (code : Option ℕ) → exit_code (text_at First read) ≡ code → GoesOn terms cause base now Exit state (exit_with state code)
      by (Some code) is = goes-ends h (λ _ same. own now (is ∙ ap Some same))
      by None is = goes-refused state (name_text Exit) BadNumber tt h

-- ---- tests

module _ {terms : Terms} {cause : Now → Type 0} {base : List Handle} {now : Now} where
  goes-tested : (program : Prog) (words : List (List ℕ)) (read : Read) (state : State) → (words ≢ [] → terms.may_start words) → Kept terms base state.fds now → Goes terms cause base now (λ _. Kept terms base state.fds) (tested program words read state)
  unfolding tested
  goes-tested program words read state can h = goes-then (goes-child state (name_text program) words can h) (λ ended now p. by ended now p.kept)
    where
      above_111 : (signal : ℕ) → 128 + signal ≡ 111 → ⊥
      above_111 signal is = omega arith

      killed : (signal : ℕ) (now : Now) → Kept terms base state.fds now → (counts : Bool) → Goes terms cause base now (λ _. Kept terms base state.fds) (if counts then gives (has (codes "n") read) else ends (Status (128 + signal) state))
      killed signal now k true = goes-gives k
      killed signal now k false = goes-ends k (λ _ is. absurd (above_111 signal is))

      by : (ended : Ended) (now : Now) → Kept terms base state.fds now → Goes terms cause base now (λ _. Kept terms base state.fds) (verdict read state ended)
      by (Exited code) now k = goes-gives k
      by (Killed signal) now k = killed signal now k (has (codes "X") read)

  pub goes-if : (state : State) (read : Read) → CanStart terms If read → ((now : Now) → failed_status read ≡ 111 → cause now) → Kept terms base state.fds now → GoesOn terms cause base now If state (if_then read state)
  unfolding if_then shape_of
  goes-if state read can own h = goes-then (goes-tested If (block_at First read) read state (can-block terms If read can refl First) h) by
    where
      by : (holds : Bool) (now : Now) → Kept terms base state.fds now → GoesOn terms cause base now If state (if_.by_test read state holds)
      by true now k = goes-on refl (unchanged If state refl) k
      by false now k = goes-ends k (λ _ is. own now is)

  pub goes-ifelse : (state : State) (read : Read) → CanStart terms Ifelse read → Kept terms base state.fds now → GoesOn terms cause base now Ifelse state (ifelse read state)
  unfolding ifelse shape_of
  goes-ifelse state read can h = goes-then (goes-tested Ifelse (block_at First read) read state (can-block terms Ifelse read can refl First) h) by
    where
      by : (holds : Bool) (now : Now) → Kept terms base state.fds now → GoesOn terms cause base now Ifelse state (ifelse_.by_test state holds)
      by true now k = goes-gives (record { kept = k; may = unchanged Ifelse state refl; go = refl })
      by false now k = goes-on refl (unchanged Ifelse state refl) k

  pub goes-ifte : (state : State) (read : Read) → CanStart terms Ifte read → Kept terms base state.fds now → GoesOn terms cause base now Ifte state (ifte read state)
  unfolding ifte shape_of
  goes-ifte state read can h = goes-then (goes-tested Ifte read.rest read state (λ some. can read.rest (record { some = some; which = inr refl })) h) (λ holds now k. goes-gives (record { kept = k; may = unchanged Ifte state refl; go = refl }))

  pub goes-ifthenelse : (state : State) (read : Read) → CanStart terms Ifthenelse read → Kept terms base state.fds now → GoesOn terms cause base now Ifthenelse state (ifthenelse read state)
  unfolding ifthenelse shape_of
  goes-ifthenelse state read can h = goes-then (goes-tested Ifthenelse (block_at First read) read state (can-block terms Ifthenelse read can refl First) h) (λ holds now k.
      goes-then (goes-child state (name_text Ifthenelse) (block_at (branch holds) read) (can-block terms Ifthenelse read can refl (branch holds)) k) (λ ended now p. goes-on refl (unchanged Ifthenelse state refl) p.kept))

-- ---- children that aren't waited for

module _ {terms : Terms} {cause : Now → Type 0} {base : List Handle} where
  goes-kid : {now : Now} (block : List (List ℕ)) (state : State) → (block ≢ [] → terms.may_start block) → Kept terms base state.fds now → Goes terms cause base now (λ _. Kept terms base state.fds) (starting_kid state block)
  unfolding starting_kid
  goes-kid block state can h = goes-act (does-starting h block can state.env state.dir (streams_of state)) by
    where
      by : (answer : Result Started Fault) (now : Now) → Answered terms base state.fds answer now → Goes terms cause base now (λ _. Kept terms base state.fds) (started.after_start state block answer)
      by (Ok started) now p = goes-act (does-unstarted_code (first_word block) started p.kept) (λ code now p. goes-gives p.kept)
      by (Err fault) now p = goes-failed state (name_text Background) p.told p.kept

  pub goes-background : {now : Now} (state : State) (read : Read) → CanStart terms Background read → Kept terms base state.fds now → GoesOn terms cause base now Background state (background read state)
  unfolding background shape_of
  goes-background state read can h = goes-then (goes-kid (block_at First read) state (can-block terms Background read can refl First) h)
      (λ kid now k. goes-on refl (record { variables = only_set state.env kid_name (kid_text kid); directory = λ no. refl; descriptors = λ no. refl; kids = λ no. absurd (true≢false no) }) k)

-- behind a wait only the kids are others
record OtherKids (terms : Terms) (base : List Handle) (before after : State) (now : Now) : Type 0 where
  kept : Kept terms base after.fds now
  variables : after.env ≡ before.env
  directory : after.dir ≡ before.dir
  descriptors : after.fds ≡ before.fds

module _ {terms : Terms} {cause : Now → Type 0} {base : List Handle} (first : State) where
  goes-one : {now : Now} (number : ℕ) (state : State) → OtherKids terms base first state now → Goes terms cause base now (OtherKids terms base first) (waiting_one number state)
  unfolding waiting_one
  goes-one {now} number state p = by (kid_of state.kids number)
    where
      left : State
      left = record state { kids = without_pid state.kids number }

      after : (answer : Result Ended Fault) (now : Now) → WasWaited terms base state.fds answer now → Goes terms cause base now (OtherKids terms base first) (waited.after_wait left answer)
      after (Ok ended) now q = goes-gives (record { kept = q.kept; variables = p.variables; directory = p.directory; descriptors = p.descriptors })
      after (Err fault) now q = goes-failed left (name_text Wait) q.told q.kept

      by : (kid : Option Pid) → Goes terms cause base now (OtherKids terms base first) (waiting_for number state kid)
      by None = goes-gives p
      by (Some kid) = goes-act (does-wait p.kept kid) after

  goes-waiting : {now : Now} (numbers : List ℕ) (state : State) → OtherKids terms base first state now → Goes terms cause base now (OtherKids terms base first) (waiting numbers state)
  unfolding waiting
  goes-waiting [] state p = goes-gives p
  goes-waiting (number ∷ numbers) state p = goes-then (goes-one number state p) (λ left now p. goes-waiting numbers left p)

module _ {terms : Terms} {cause : Now → Type 0} {base : List Handle} {now : Now} where
  pub goes-wait : (state : State) (read : Read) → Kept terms base state.fds now → GoesOn terms cause base now Wait state (wait read state)
  unfolding wait shape_of
  goes-wait state read h = by (waited_numbers (block_at First read) state.kids) (are_numbers (block_at First read))
    where
      by : (numbers : List ℕ) (good : Bool) → GoesOn terms cause base now Wait state (waiting_if state numbers good)
      by numbers true = goes-then (goes-waiting state numbers state (record { kept = h; variables = refl; directory = refl; descriptors = refl }))
          (λ left now p. goes-on refl (record { variables = p.variables; directory = λ no. p.directory; descriptors = λ no. p.descriptors; kids = λ no. absurd (true≢false no) }) p.kept)
      by numbers false = goes-refused state (name_text Wait) BadNumber tt h

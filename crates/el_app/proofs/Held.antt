-- What execlineb holds: exactly what is due, from its start to its end.
use Rattle.el_room.proofs.Vocabulary.{list_all, nat_tests, or-false, Vars, Strictness, execlineb_options, Handle, Finish, Spent, NoMemory, Seen, is_held, and_then, State, Task, standard_fds, came_out, Follows, Trouble, is_given, is_at_some}
use Rattle.el_machine.proofs.Vocabulary.{Status, HoldsExactly, flat_run, Now, Kept, Goes, goes-then, at_first}
use Rattle.std.proofs.Common.{◌≡◌, ℕ, suc, Bool, true, false, ◌&&◌, ◌||◌, nat_le, List, Option, Some, None, Result, Ok, Err, refl, sym, ap, ◌∙◌, subst, true≢false, ◌==◌, arith}
use Rattle.std.proofs.Math.Bool.{and-false}
use Rattle.el_machine.proofs.ExactChanges.{all_given}
use Rattle.el_machine.proofs.HoldsRuns.{holds-ran, held-added}
use Rattle.el_machine.proofs.HoldsTasks.{goes-refusal}
use Rattle.el_machine.proofs.HoldsSteps.{goes-run, run_exactly}
use Rattle.el_machine.proofs.Holds.{knowing}
use Rattle.el_app.specs.declared.asked.Asked.{Asked}
use Rattle.el_app.specs.Names.{execlineb_name}
use Rattle.el_app.specs.Options.{asked}
use Rattle.el_app.specs.Execlineb.{with_strictness, prelude, asked_run, execlineb_run}
use Rattle.el_app.specs.First.{first_state}
use Rattle.el_app.specs.Held.{KeepsWhatIsHeld, VectorKeepsWhatIsHeld}
use Rattle.el_app.proofs.Prepared.{goes-prelude}

-- ---- the call

-- from here a run ends as is due
abbrev GoesRun : (known : Type 0) → List Handle → Now → Task ⊥ → Type 0
GoesRun known base now run = Goes (knowing known) (λ _. Unit {0}) base now (λ never now. Unit {0}) run

module _ {known : Type 0} {base : List Handle} {now : Now} where
  goes-prepared : (asking : Asked) (state : State) → Kept (knowing known) base state.fds now → GoesRun known base now (and_then (prelude asking state) (λ left. flat_run left.words left.state))
  goes-prepared asking state h = goes-then (goes-prelude state asking h) (λ left now h. goes-run left.words left.state h)

  -- EXECLINE_STRICT changes no number
  goes-strict : (strict : Option Strictness) (asking : Asked) (state : State) → Kept (knowing known) base state.fds now → GoesRun known base now (and_then (prelude asking (with_strictness strict state)) (λ left. flat_run left.words left.state))
  goes-strict None asking state h = goes-prepared asking state h
  goes-strict (Some strictness) asking state h = goes-prepared asking (with_strictness (Some strictness) state) h

  pub goes-asked : (asking : Result Asked Trouble) (state : State) → Kept (knowing known) base state.fds now → GoesRun known base now (asked_run asking state)
  unfolding asked_run
  goes-asked (Ok asking) state h = goes-strict asking.strict asking state h
  goes-asked (Err trouble) state h = goes-refusal state execlineb_name trouble (λ _ _ _. tt) h

-- ---- where it begins

-- none of the world's is at a number of a new process
own_alone : (number : ℕ) → (nat_le 3 number && is_at_some standard_fds (record { number = number })) ≡ false
own_alone Prim.Native.Nat.zero = refl
own_alone (suc Prim.Native.Nat.zero) = refl
own_alone (suc (suc Prim.Native.Nat.zero)) = refl
own_alone (suc (suc (suc n))) =
    let zero : (suc (suc (suc n)) == 0) ≡ false = grind (arith, nat_tests) in
    let one : (suc (suc (suc n)) == 1) ≡ false = grind (arith, nat_tests) in
    let two : (suc (suc (suc n)) == 2) ≡ false = grind (arith, nat_tests) in
    rw (zero, one, two) (and-false (nat_le 3 (suc (suc (suc n)))))

-- what a world holds beside the numbers of a new process
standard_exactly : (held : List Handle) → list_all is_given held ≡ true → HoldsExactly held held standard_fds
standard_exactly held given = record {
  exactly = λ x. sym (ap (λ b. is_held held x || b) (own_alone x.number) ∙ or-false (is_held held x));
  apart = λ x there. by x (is_at_some standard_fds x) refl (all_given held x given there);
  numbers = refl;
}
  where
    by : (x : Handle) (at : Bool) → is_at_some standard_fds x ≡ at → is_given x ≡ true → at ≡ false
    by x false e given = refl
    by x true e given = absurd (true≢false (sym (rw (given, e) refl) ∙ own_alone x.number))

module _ {old new : Seen} {words : List (List ℕ)} {env : Vars} {dir : List ℕ} {units left : ℕ} {state : State} where
  -- what is held behind execlineb, in a world that holds only handles that it gave
  pub keeps_what_is_held : list_all is_given old.held ≡ true → (finish : Finish) → Follows {A = ⊥} {B = ⊥} old new (execlineb_run words (first_state env dir)) units (Err finish) (λ never. never) state left → KeepsWhatIsHeld old new words env dir units finish
  unfolding came_out execlineb_run
  keeps_what_is_held given (Status code) p = record {
    exactly = record {
      state = state;
      ends = record { left = left; ran = p.ran };
      holds =
          let goes = goes-asked {known = Unit {0}} {base = old.held} {now = at_first old.held} (asked execlineb_options words) (first_state env dir) (record { exact = λ _. standard_exactly old.held given }) in
          let out = holds-ran _ _ (knowing (Unit {0})) goes.so p.ran in
          subst (λ held. HoldsExactly old.held held state.fds) (held-added p.ran.events p.ran.added) (out.exact tt);
    };
  }
  keeps_what_is_held given Spent p = record { exactly = tt }
  keeps_what_is_held given NoMemory p = record { exactly = tt }

  -- the same behind a vector
  pub vector_keeps : list_all is_given old.held ≡ true → (finish : Finish) → Follows {A = ⊥} {B = ⊥} old new (flat_run words (first_state env dir)) units (Err finish) (λ never. never) state left → VectorKeepsWhatIsHeld old new words env dir units finish
  unfolding came_out
  vector_keeps given (Status code) p = record {
    exactly = record {
      state = state;
      ends = record { left = left; ran = p.ran };
      holds = run_exactly words (first_state env dir) state (Status code) p (standard_exactly old.held given);
    };
  }
  vector_keeps given Spent p = record { exactly = tt }
  vector_keeps given NoMemory p = record { exactly = tt }

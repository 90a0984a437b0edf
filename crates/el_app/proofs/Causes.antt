-- Why execlineb, or a vector, ends with 111 while no call fails.
use Rattle.el_room.proofs.Vocabulary.{Vars, execlineb_options, Event, Handle, Finish, Spent, NoMemory, Seen, and_then, ended, Does, State, came_out, Follows, Trouble, Left, refused}
use Rattle.el_machine.proofs.Vocabulary.{Status, flat_run, HasCauseUnlessFailed, Kept, Goes, at_first, goes-refused}
use Rattle.std.proofs.Common.{◌≡◌, ℕ, List, [], Option, Result, Ok, Err, refl, subst, ◌⊎◌, inl, inr}
use Rattle.el_world.specs.States as end
use Rattle.el_machine.proofs.HoldsRuns.{AllSucceed, later-succeed, all-succeed}
use Rattle.el_machine.proofs.HoldsSteps.{by_count}
use Rattle.el_machine.proofs.RunsEndWith111.{WentOn, ended_by, ended_for, run_ended, run_cause}
use Rattle.el_machine.proofs.Holds.{knowing}
use Rattle.el_app.specs.declared.asked.Asked.{Asked}
use Rattle.el_app.specs.Names.{execlineb_name}
use Rattle.el_app.specs.Options.{asked}
use Rattle.el_app.specs.Execlineb.{prelude, asked_run, execlineb_run}
use Rattle.el_app.specs.First.{first_state}
use Rattle.el_app.specs.Headline.{state_at_reading}
use Rattle.el_app.specs.Causes.{CallEndsWith111, IsCaused, IsVectorCaused}
use Rattle.el_app.proofs.Prepared.{asked-other, goes-prelude}

-- ---- the call

-- it doesn't matter what is held
none_held : {fds : List (Option Handle)} → Kept (knowing ⊥) [] fds (at_first [])
none_held = record { exact = λ never. absurd never }

module _ (words : List (List ℕ)) (env : Vars) (dir : List ℕ) (units : ℕ) (events : List Event) (at : State) (left : ℕ) (all : AllSucceed events) where
  prepared_ended : (asking : Asked) → asked execlineb_options words ≡ Ok asking
      → Does (and_then (prelude asking (state_at_reading asking env dir)) (λ begun. flat_run begun.words begun.state)) units events (ended (end.Status 111 at)) left → CallEndsWith111 words env dir units events
  prepared_ended asking is goes = by (ended_by (λ (begun : Left). flat_run begun.words begun.state) (end.Status 111 at) left (prelude asking (state_at_reading asking env dir)) units events goes)
    where
      by : Does (prelude asking (state_at_reading asking env dir)) units events (ended (end.Status 111 at)) left
          ⊎ WentOn (prelude asking (state_at_reading asking env dir)) (λ (begun : Left). flat_run begun.words begun.state) units events (end.Status 111 at) left
          → CallEndsWith111 words env dir units events
      by (inl goes) = absurd (ended_for (λ _. ⊥) units events at left (goes-prelude (state_at_reading asking env dir) asking none_held) goes all)
      by (inr on) =
          let begun : Left = on.gift in
          record {
            asking = asking;
            is_asked = is;
            first = on.one;
            later = on.two;
            parts = on.parts;
            begun = begun;
            left = on.left;
            prepared = on.first;
            cause = run_ended begun.words begun.state on.left on.two at left on.second (later-succeed on.one on.two (subst (λ events. AllSucceed events) on.parts all));
          }

  call_ended : (asking : Result Asked Trouble) → asked execlineb_options words ≡ asking → Does (asked_run asking (first_state env dir)) units events (ended (end.Status 111 at)) left → CallEndsWith111 words env dir units events
  unfolding asked_run
  call_ended (Ok asking) is goes = prepared_ended asking is goes
  call_ended (Err trouble) is goes =
      let refusal : Goes {A = ⊥} (knowing ⊥) (λ _. ⊥) [] (at_first []) (λ _ _. ⊥) (refused (first_state env dir) execlineb_name trouble) = goes-refused (first_state env dir) execlineb_name trouble (asked-other execlineb_options words trouble is) none_held in
      absurd (ended_for (λ _. ⊥) units events at left refusal goes all)

module _ {old new : Seen} (words : List (List ℕ)) (env : Vars) (dir : List ℕ) {state : State} {units left : ℕ} where
  -- why the top call on a vector answers 111
  pub vector_caused : (finish : Finish) → Follows {A = ⊥} {B = ⊥} old new (flat_run words (first_state env dir)) units (Err finish) (λ never. never) state left → IsVectorCaused old new words env dir units finish
  vector_caused finish p is = let caused = run_cause words (first_state env dir) state finish p is in (caused, λ none. by_count caused none)

  -- why execlineb answers 111
  pub call_caused : (finish : Finish) → Follows {A = ⊥} {B = ⊥} old new (execlineb_run words (first_state env dir)) units (Err finish) (λ never. never) state left → IsCaused old new words env dir units finish
  unfolding came_out execlineb_run
  call_caused (Status code) p is =
      let same : code ≡ 111 = cc in
      let added = p.ran.added in
      let caused : HasCauseUnlessFailed old new (CallEndsWith111 words env dir units) = record {
        events = p.ran.events;
        added = added;
        cause = λ none. call_ended words env dir units p.ran.events state left (all-succeed p.ran.events added.lawful none) (asked execlineb_options words) refl
            (subst (λ (code : ℕ). Does (asked_run (asked execlineb_options words) (first_state env dir)) units p.ran.events (ended (end.Status code state)) left) same p.ran.agrees);
      } in
      (caused, λ none. by_count caused none)
  call_caused Spent p is = let no : ⊥ = cc in absurd no
  call_caused NoMemory p is = let no : ⊥ = cc in absurd no

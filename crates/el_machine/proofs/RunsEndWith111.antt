-- Why a run ends with 111 while no call fails, by its events.
use Rattle.el_room.proofs.Vocabulary.{Prog, Event, Handle, Finish, Spent, NoMemory, Seen, Plan, gives, ends, takes, calls, and_then, given, ended, Does, State, Task, came_out, Follows, most_units, Left}
use Rattle.std.proofs.Common.{◌≡◌, ◌⊎◌, inl, inr, ℕ, suc, List, [], ◌∷◌, ◌++◌, Option, Some, None, Err, refl, ap, subst, arith}
use Rattle.el_world.specs.declared.finish.Finish.TheVariants.{Status}
use Rattle.el_world.specs.States as end
use Rattle.el_machine.specs.Commands.{last_command}
use Rattle.el_machine.specs.Flat.{flat_step, first_program, run_by, flat_within, flat_run}
use Rattle.el_machine.specs.Causes.{EndsByWait, EndsWith111, Point, RunEndsWith111, RunCause, HasCauseUnlessFailed}
use Rattle.el_machine.proofs.Holds.{knowing, Now, Kept, Goes}
use Rattle.el_machine.proofs.HoldsRuns.{AllSucceed, told_first, all-succeed, later-succeed, holds-events, went-well-first, at_first}
use Rattle.el_machine.proofs.HoldsPrograms.{goes-step}
use Rattle.el_machine.proofs.HoldsSteps.{goes-last}

-- it doesn't matter what is held
none_held : {fds : List (Option Handle)} → Kept (knowing ⊥) [] fds (at_first [])
none_held = record { exact = λ never. absurd never }

-- a task that ended with 111 has its cause, by its events
pub ended_for : {A : Type 0} (cause : List Event → Type 0) {P : A → Now → Type 0} {task : Task A} (u : ℕ) (events : List Event) (state : State) (v : ℕ) → Goes (knowing ⊥) (λ now. cause now.told) [] (at_first []) P task
    → Does task u events (ended (end.Status 111 state)) v → AllSucceed events → cause events
ended_for cause {task = task} u events state v goes does all =
    let out = holds-events _ _ task (at_first []) u events (ended (end.Status 111 state)) v goes.so does in
    subst (λ events. cause events) (told_first [] events) (out.why (went-well-first [] events all) refl)

step_ended : (program : Prog) (words : List (List ℕ)) (state : State) (u : ℕ) (events : List Event) (at : State) (v : ℕ) → Does (flat_step program words state) u events (ended (end.Status 111 at)) v → AllSucceed events
    → EndsWith111 program words state events
step_ended program words state u events at v does all = ended_for (λ events. EndsWith111 program words state events) u events at v (goes-step program words state (λ read has words starts. tt) (λ now why. why) none_held) does all

-- 111 is the last command's own status
last_ended : (words : List (List ℕ)) (state : State) (u : ℕ) (events : List Event) (at : State) (v : ℕ) → Does (last_command {A = ⊥} words state) u events (ended (end.Status 111 at)) v → AllSucceed events → EndsByWait events
last_ended words state u events at v does all =
    let goes : Goes {A = ⊥} (knowing ⊥) (λ now. EndsByWait now.told) [] (at_first []) (λ _ _. ⊥) (last_command words state) = goes-last (λ now last. last) state words tt none_held in
    ended_for (λ events. EndsByWait events) u events at v goes does all

-- ---- a plan, and what follows it

-- the first plan gave something, and the next one ended
pub record WentOn {E A B : Type 0} (plan : Plan E A) (next : A → Plan E B) (u : ℕ) (events : List Event) (at : E) (v : ℕ) : Type 0 where
  pub gift : A
  pub one : List Event
  pub two : List Event
  pub left : ℕ
  pub parts : events ≡ one ++ two
  pub first : Does plan u one (given gift) left
  pub second : Does (next gift) left two (ended at) v

module _ {E A B : Type 0} (next : A → Plan E B) (at : E) (v : ℕ) where
  -- where both end, the first did, or the next one
  pub ended_by : (plan : Plan E A) (u : ℕ) (events : List Event) → Does (and_then plan next) u events (ended at) v → Does plan u events (ended at) v ⊎ WentOn plan next u events at v
  unfolding and_then
  ended_by (gives a) u events goes = inr (record { gift = a; one = []; two = events; left = u; parts = refl; first = (refl, refl); second = goes })
  ended_by (ends other) u [] goes = let same : at ≡ other = let e = goes.0 in cc in inl (ap ended same, goes.1)
  ended_by (ends other) u (event ∷ events) goes = absurd goes
  ended_by (takes other plan) Prim.Native.Nat.zero [] goes = let same : at ≡ other = let e = goes.0 in cc in inl (ap ended same, goes.1)
  ended_by (takes other plan) Prim.Native.Nat.zero (event ∷ events) goes = absurd goes
  ended_by (takes other plan) (suc u) events goes = by (ended_by plan u events goes)
    where
      by : Does plan u events (ended at) v ⊎ WentOn plan next u events at v → Does plan u events (ended at) v ⊎ WentOn (takes other plan) next (suc u) events at v
      by (inl goes) = inl goes
      by (inr on) = inr (record { gift = on.gift; one = on.one; two = on.two; left = on.left; parts = on.parts; first = on.first; second = on.second })
  ended_by (calls call after) u [] goes = absurd goes
  ended_by (calls call after) u (event ∷ events) goes = by (ended_by (after goes.0) u events goes.2)
    where
      by : Does (after goes.0) u events (ended at) v ⊎ WentOn (after goes.0) next u events at v → Does (calls call after) u (event ∷ events) (ended at) v ⊎ WentOn (calls call after) next u (event ∷ events) at v
      by (inl rest) = inl (goes.0, goes.1, rest)
      by (inr on) = inr (record {
        gift = on.gift;
        one = event ∷ on.one;
        two = on.two;
        left = on.left;
        parts = ap (λ events. event ∷ events) on.parts;
        first = (goes.0, goes.1, on.first);
        second = on.second;
      })

-- ---- a run

abbrev point_at : (words : List (List ℕ)) → State → (units : ℕ) → List Event → Point
point_at words state units events = record { words = words; state = state; units = units; events = events }

module _ (at : State) (v : ℕ) where
  run_by_ended : (first : Option Prog) (words : List (List ℕ)) (state : State) (next : Left → Task ⊥) (u : ℕ) (events : List Event) → first_program words ≡ first
      → ((left : Left) (u : ℕ) (events : List Event) → Does (next left) u events (ended (end.Status 111 at)) v → AllSucceed events → RunEndsWith111 (point_at left.words left.state u events))
      → Does (run_by first words state next) u events (ended (end.Status 111 at)) v → AllSucceed events → RunEndsWith111 (point_at words state u events)
  run_by_ended None [] state next u [] is later goes all = let same : ◌≡◌ {A = ℕ} 111 0 = let e = goes.0 in cc in absurd (omega arith)
  run_by_ended None [] state next u (event ∷ events) is later goes all = absurd goes
  run_by_ended None (word ∷ words) state next u events is later goes all =
      record { programs = 0; point = point_at (word ∷ words) state u events; reached = refl; cause = inr (record { named = is; last = last_ended (word ∷ words) state u events at v goes all }) }
  run_by_ended (Some program) words state next u events is later goes all = by (ended_by next (end.Status 111 at) v (flat_step program words state) u events goes)
    where
      by : Does (flat_step program words state) u events (ended (end.Status 111 at)) v ⊎ WentOn (flat_step program words state) next u events (end.Status 111 at) v → RunEndsWith111 (point_at words state u events)
      by (inl goes) = record {
        programs = 0;
        point = point_at words state u events;
        reached = refl;
        cause = inl (record { program = program; named = is; state = at; left = v; does = goes; cause = step_ended program words state u events at v goes all });
      }
      by (inr on) =
          let rest = later on.gift on.left on.two on.second (later-succeed on.one on.two (subst (λ events. AllSucceed events) on.parts all)) in
          let left : Left = on.gift in
          record {
            programs = suc rest.programs;
            point = rest.point;
            reached = (point_at left.words left.state on.left on.two, record { program = program; named = is; added = on.one; events = on.parts; does = on.first }, rest.reached);
            cause = rest.cause;
          }

  within_ended : (programs : ℕ) (words : List (List ℕ)) (state : State) (u : ℕ) (events : List Event) → Does (flat_within programs words state) u events (ended (end.Status 111 at)) v → AllSucceed events
      → RunEndsWith111 (point_at words state u events)
  unfolding flat_within
  within_ended Prim.Native.Nat.zero words state u [] goes all = let no : ⊥ = let e = goes.0 in cc in absurd no
  within_ended Prim.Native.Nat.zero words state u (event ∷ events) goes all = absurd goes
  within_ended (suc programs) words state u events goes all =
      run_by_ended (first_program words) words state (λ left. flat_within programs left.words left.state) u events refl (λ left u events goes all. within_ended programs left.words left.state u events goes all) goes all

-- why a run ends with 111, by its events
pub run_ended : (words : List (List ℕ)) (state : State) (u : ℕ) (events : List Event) (at : State) (v : ℕ) → Does (flat_run words state) u events (ended (end.Status 111 at)) v → AllSucceed events → RunEndsWith111 (point_at words state u events)
unfolding flat_run
run_ended words state u events at v goes all = within_ended at v most_units words state u events goes all

-- and between two states of a world
pub run_cause : {old new : Seen} (words : List (List ℕ)) (before after : State) (finish : Finish) {units left : ℕ}
    → Follows {A = ⊥} {B = ⊥} old new (flat_run words before) units (Err finish) (λ never. never) after left → finish ≡ Status 111 → HasCauseUnlessFailed old new (RunCause words before units)
unfolding came_out
run_cause words before after (Status code) {units} {left} p is =
    let same : code ≡ 111 = cc in
    let goes = subst (λ (code : ℕ). Does (flat_run words before) units p.ran.events (ended (end.Status code after)) left) same p.ran.agrees in
    let added = p.ran.added in
    record {
      events = p.ran.events;
      added = added;
      cause = λ none. run_ended words before units p.ran.events after left goes (all-succeed p.ran.events added.lawful none);
    }
run_cause words before after Spent p is = let no : ⊥ = cc in absurd no
run_cause words before after NoMemory p is = let no : ⊥ = cc in absurd no

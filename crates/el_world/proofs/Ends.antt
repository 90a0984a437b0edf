-- Ends that are changed into others.
use Rattle.std.proofs.Common.{◌≡◌, ℕ, suc, List, [], ◌∷◌, Option, None, Some, option_map, refl, ap}
use Rattle.el_world.specs.declared.event.Event.{Event}
use Rattle.el_world.specs.World.{Seen}
use Rattle.el_world.specs.Calls.{AnswerOf, event_of, Found, taken}
use Rattle.el_world.specs.Plans.{Plan, gives, ends, takes, calls, ends_as, Outcome, outcome_as, Made, made, answered, after_event, Does, Begins}
use Rattle.el_world.specs.Runs.{Ran, PlanAgrees}

module _ {E F A : Type 0} (of : E → F) where
  pub does-ends_as : (plan : Plan E A) (u : ℕ) (events : List Event) (out : Outcome E A) (v : ℕ) → Does plan u events out v → Does (ends_as of plan) u events (outcome_as of out) v
  unfolding ends_as
  does-ends_as (gives a) u [] out v p = (ap (outcome_as of) p.0, p.1)
  does-ends_as (gives a) u (event ∷ events) out v p = absurd p
  does-ends_as (ends end) u [] out v p = (ap (outcome_as of) p.0, p.1)
  does-ends_as (ends end) u (event ∷ events) out v p = absurd p
  does-ends_as (takes end plan) Prim.Native.Nat.zero [] out v p = (ap (outcome_as of) p.0, p.1)
  does-ends_as (takes end plan) Prim.Native.Nat.zero (event ∷ events) out v p = absurd p
  does-ends_as (takes end plan) (suc u) events out v p = does-ends_as plan u events out v p
  does-ends_as (calls call after) u [] out v p = absurd p
  does-ends_as (calls call after) u (event ∷ events) out v p = (p.0, p.1, does-ends_as (after p.0) u events out v p.2)

  pub begins-ends_as : (plan : Plan E A) (u : ℕ) (events : List Event) → Begins plan u events → Begins (ends_as of plan) u events
  unfolding ends_as
  begins-ends_as plan u [] p = tt
  begins-ends_as (gives a) u (event ∷ events) p = absurd p
  begins-ends_as (ends end) u (event ∷ events) p = absurd p
  begins-ends_as (takes end plan) Prim.Native.Nat.zero (event ∷ events) p = absurd p
  begins-ends_as (takes end plan) (suc u) (event ∷ events) p = begins-ends_as plan u (event ∷ events) p
  begins-ends_as (calls call after) u (event ∷ events) p = (p.0, p.1, begins-ends_as (after p.0) u events p.2)

  -- a run comes out with the changed end
  pub ran-ends_as : {old new : Seen} {run : Plan E A} {u v : ℕ} {out : Option (Outcome E A)} → Ran old new run u out v → Ran old new (ends_as of run) u (option_map (outcome_as of) out) v
  ran-ends_as {run = run} {u = u} {v = v} {out = out} p = record { events = p.events; added = p.added; agrees = by out p.agrees }
    where
      by : (out : Option (Outcome E A)) → PlanAgrees run u p.events out v → PlanAgrees (ends_as of run) u p.events (option_map (outcome_as of) out) v
      by None begun = begins-ends_as run u p.events begun
      by (Some out) does = does-ends_as run u p.events out v does

  -- what is made, with the changed end
  abbrev pub made_as : Made E A → Made F A
  made_as meant = record { events = meant.events; outcome = outcome_as of meant.outcome; units = meant.units; left = meant.left }

  pub made-ends_as : (plan : Plan E A) (u : ℕ) (found : List Found) → made (ends_as of plan) u found ≡ made_as (made plan u found)
  unfolding ends_as
  made-ends_as (gives a) u found = refl
  made-ends_as (ends end) u found = refl
  made-ends_as (takes end plan) Prim.Native.Nat.zero found = refl
  made-ends_as (takes end plan) (suc u) found = made-ends_as plan u found
  made-ends_as (calls call after) u found = by (λ a left. made-ends_as (after a) u left) (taken call found)
    where
      by : ((a : AnswerOf call) (left : List Found) → made (ends_as of (after a)) u left ≡ made_as (made (after a) u left)) → (next : Option (AnswerOf call × List Found)) → answered call (λ a left. made (ends_as of (after a)) u left) u found next ≡ made_as (answered call (λ a left. made (after a) u left) u found next)
      by rest None = refl
      by rest (Some next) = ap (after_event (event_of call next.0)) (rest next.0 next.1)

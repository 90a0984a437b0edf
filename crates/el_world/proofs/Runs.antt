-- How code that does acts and runs plans goes on, call by call.
use Rattle.std.proofs.Common.{◌≡◌, ℕ, suc, ◌-◌, ◌<◌, List, [], ◌∷◌, ◌++◌, Option, None, Some, Result, Ok, Err, refl, sym, ap, subst, ◌∙◌, IsErr, true≢false, append-nil, arith}
use Rattle.el_world.specs.declared.event.Event.{Event}
use Rattle.el_world.specs.World.{Seen, extended}
use Rattle.el_world.specs.Calls.{found_in}
use Rattle.el_world.specs.Acts as act
use Rattle.el_world.specs.Acts.{Act, and_do}
use Rattle.el_world.specs.Plans.{Plan, gives, ends, takes, and_then, and_go_on, Outcome, given, ended, made, Made}
use Rattle.el_world.specs.Runs.{ActAgrees, Done, PlanAgrees, Ran, AreEventsOf, Tells, ok_map}
use Rattle.el_world.proofs.Added.{nothing_added, added_after}
use Rattle.el_world.proofs.Acts.{does-and_do, begins-later, begins-and_do}
use Rattle.el_world.proofs.Plans.{does-and_go_on, begins_on, begins-and_go_on, does-and_then, does-ended, begins-then, begins-and_then, made-does, made-begins}

-- ---- acts

module _ {A : Type 0} where
  -- with no memory before its first call, an act has begun
  pub not_begun : {world : Seen} {done : Act A} → Done world world done None
  not_begun {world = world} = record { events = []; added = nothing_added world; agrees = tt }

  -- an act with no call
  pub done_at_once : {world : Seen} (a : A) → Done world world (act.gives a) (Some a)
  done_at_once {world} a = record { events = []; added = nothing_added world; agrees = refl }

module _ {A B : Type 0} {first : Act A} (next : A → Act B) {old : Seen} where
  -- an act goes on with the next one
  pub done_then : {mid new : Seen} {a : A} {result : Option B} → Done old mid first (Some a) → Done mid new (next a) result → Done old new (and_do first next) result
  done_then {mid} {new} {a} {result} p q = record { events = p.events ++ q.events; added = added_after p.added q.added; agrees = both result q.agrees }
    where
      both : (result : Option B) → ActAgrees (next a) q.events result → ActAgrees (and_do first next) (p.events ++ q.events) result
      both None b = begins-later next first p.events q.events a p.agrees b
      both (Some b) d = does-and_do next first p.events q.events a b p.agrees d

  -- an act that is cut off in its first part
  pub done_short : {new : Seen} → Done old new first None → Done old new (and_do first next) None
  done_short p = record { events = p.events; added = p.added; agrees = begins-and_do next first p.events p.agrees }

-- ---- plans

module _ {E A : Type 0} {world : Seen} {u : ℕ} where
  pub not_run : {run : Plan E A} → Ran world world run u None u
  not_run = record { events = []; added = nothing_added world; agrees = tt }

  -- a plan with no call and no unit
  pub ran_at_once : (a : A) → Ran {E = E} world world (gives a) u (Some (given a)) u
  ran_at_once a = record { events = []; added = nothing_added world; agrees = (refl, refl) }

  pub ran_to_end : (end : E) → Ran {A = A} world world (ends end) u (Some (ended end)) u
  ran_to_end end = record { events = []; added = nothing_added world; agrees = (refl, refl) }

-- a unit is due, and none is left
pub no_unit : {E A : Type 0} {world : Seen} {u : ℕ} {run : Plan E A} (end : E) → u ≡ 0 → Ran world world (takes end run) u (Some (ended end)) u
no_unit {E} {A} {world} {u} {run} end none = record { events = []; added = nothing_added world; agrees = by u none }
  where
    by : (u : ℕ) → u ≡ 0 → PlanAgrees (takes end run) u [] (Some (ended end)) u
    by Prim.Native.Nat.zero none = (refl, refl)
    by (suc u) none = absurd (omega arith)

less : (u : ℕ) → suc u - 1 ≡ u
less u = omega arith

-- a unit is due, and taken
pub unit_taken : {E A : Type 0} {old new : Seen} {u v : ℕ} {run : Plan E A} {out : Option (Outcome E A)} (end : E) → 0 < u → Ran old new run (u - 1) out v → Ran old new (takes end run) u out v
unit_taken {E} {A} {old} {new} {u} {v} {run} {out} end some p = record { events = p.events; added = p.added; agrees = by u some out p.agrees }
  where
    begun : (u : ℕ) (events : List Event) → PlanAgrees run u events None v → PlanAgrees (takes end run) (suc u) events None v
    begun u [] p = tt
    begun u (event ∷ events) p = p

    by : (u : ℕ) → 0 < u → (out : Option (Outcome E A)) → PlanAgrees run (u - 1) p.events out v → PlanAgrees (takes end run) u p.events out v
    by Prim.Native.Nat.zero some out q = absurd (omega arith)
    by (suc u) some None q = begun u p.events (subst (λ n. PlanAgrees run n p.events None v) (less u) q)
    by (suc u) some (Some out) q = subst (λ n. PlanAgrees run n p.events (Some out) v) (less u) q

module _ {E A B : Type 0} {done : Act A} (next : A → Plan E B) {old : Seen} {u : ℕ} where
  -- an act goes on with a plan
  pub go_on : {mid new : Seen} {a : A} {out : Option (Outcome E B)} {v : ℕ} → Done old mid done (Some a) → Ran mid new (next a) u out v → Ran old new (and_go_on done next) u out v
  go_on {mid} {new} {a} {out} {v} p q = record { events = p.events ++ q.events; added = added_after p.added q.added; agrees = both out q.agrees }
    where
      both : (out : Option (Outcome E B)) → PlanAgrees (next a) u q.events out v → PlanAgrees (and_go_on done next) u (p.events ++ q.events) out v
      both None b = begins_on next done p.events q.events a u p.agrees b
      both (Some out) d = does-and_go_on next done p.events q.events a u out v p.agrees d

  -- a plan that is cut off in its first act
  pub go_short : {new : Seen} → Done old new done None → Ran old new (and_go_on done next) u None u
  go_short p = record { events = p.events; added = p.added; agrees = begins-and_go_on next done p.events u p.agrees }

module _ {E A B : Type 0} {run : Plan E A} (next : A → Plan E B) {old : Seen} {u : ℕ} where
  -- a plan goes on with the next one
  pub then : {mid new : Seen} {a : A} {out : Option (Outcome E B)} {v w : ℕ} → Ran old mid run u (Some (given a)) v → Ran mid new (next a) v out w → Ran old new (and_then run next) u out w
  then {mid} {new} {a} {out} {v} {w} p q = record { events = p.events ++ q.events; added = added_after p.added q.added; agrees = both out q.agrees }
    where
      both : (out : Option (Outcome E B)) → PlanAgrees (next a) v q.events out w → PlanAgrees (and_then run next) u (p.events ++ q.events) out w
      both None b = begins-then next run u p.events q.events a v p.agrees b
      both (Some out) d = does-and_then next run u p.events q.events a v out w p.agrees d

  -- a plan that ends the process
  pub stopped : {new : Seen} {end : E} {v : ℕ} → Ran old new run u (Some (ended end)) v → Ran old new (and_then run next) u (Some (ended end)) v
  stopped {new} {end} {v} p = record { events = p.events; added = p.added; agrees = does-ended next run u p.events end v p.agrees }

  -- a plan that is cut off in its first part
  pub cut_off : {new : Seen} {v : ℕ} → Ran old new run u None v → Ran old new (and_then run next) u None v
  cut_off p = record { events = p.events; added = p.added; agrees = begins-and_then next run u p.events p.agrees }

-- ---- at the exit of a `?`

pub done_err : {A B E : Type 0} {old new : Seen} {done : Act B} (r : Result A E) (f : A → B) → IsErr r → Done old new done None → Done old new done (ok_map r f)
done_err (Ok value) f e p = absurd (true≢false (sym e))
done_err (Err error) f e p = p

pub ran_err : {A E F : Type 0} {B : Type 0} {old new : Seen} {run : Plan F B} {u v : ℕ} (r : Result A E) (f : A → Outcome F B) → IsErr r → Ran old new run u None v → Ran old new run u (ok_map r f) v
ran_err (Ok value) f e p = absurd (true≢false (sym e))
ran_err (Err error) f e p = p

-- what `search` needs to follow a function's calls
pub ruleset acts = (done_then, done_short, done_at_once, not_begun, done_err)

pub ruleset runs = (done_then, done_short, done_at_once, not_begun, done_err, go_on, go_short, then, stopped, cut_off, ran_at_once, ran_to_end, not_run, no_unit, unit_taken, ran_err)

-- ---- what a run tells

pub tells : {E A : Type 0} {old new : Seen} {run : Plan E A} {u : ℕ} {out : Option (Outcome E A)} {v : ℕ} → Ran old new run u out v → Tells old new run u out
unfolding extended
tells {E} {A} {old} {new} {run} {u} {out} {v} p = record {
  told = λ before is. (p.events, p.added.told ∙ ap (λ log. extended log p.events) is, p.added.lawful, by out p.agrees);
  untold = λ is. p.added.told ∙ ap (λ log. extended log p.events) is;
  origin = p.added.origin;
}
  where
    all : found_in p.events ≡ found_in p.events ++ []
    all = sym (append-nil (found_in p.events))

    by : (out : Option (Outcome E A)) → PlanAgrees run u p.events out v → AreEventsOf p.events (made run u (found_in p.events)) out
    by None begun = let later = made-begins run u p.events [] begun in (later.0, ap (λ fs. (made run u fs).events) all ∙ later.1)
    by (Some out) does =
        let is = ap (made run u) all ∙ made-does run u p.events out v [] does in
        (ap (λ (m : Made E A). m.events) is, ap (λ (m : Made E A). m.outcome) is, ap (λ (m : Made E A). m.left) is)

-- How code that may end its process goes on.
use Rattle.std.proofs.Common.{◌≡◌, ◌≢◌, ℕ, ◌-◌, ◌<◌, ◌≤◌, None, Some, Result, Ok, Err, refl, sym, ap, subst, ◌∙◌}
use Rattle.std.specs.Result.{IsErrAnd}
use Rattle.std.proofs.lemmas.Result.{err_from_is_err_and}
use Rattle.el_world.specs.declared.finish.Finish.{Finish}
use Rattle.el_world.specs.declared.finish.Finish.TheVariants.{Status, Spent, NoMemory}
use Rattle.el_world.specs.World.{Seen}
use Rattle.el_world.specs.Acts.{Act, and_do}
use Rattle.el_world.specs.Plans.{gives, ends, takes, and_then, and_go_on}
use Rattle.el_world.specs.States as end
use Rattle.el_world.specs.States.{State, End, Task}
use Rattle.el_world.specs.Runs.{Done, Ran, Tells}
use Rattle.el_world.specs.Follows.{finished, came_out, Follows}
use Rattle.el_world.proofs.Runs.{then, stopped, cut_off, go_on, go_short, ran_at_once, ran_to_end, not_run, no_unit, unit_taken, tells}
use Rattle.el_world.proofs.Units.{ran-units}
use Rattle.el_world.proofs.Algebra.{then-assoc, go_on-then, do-go_on}

-- want of memory isn't a spent budget, and a value is none
memory_left : {A : Type 0} {r : Result A Finish} {v : ℕ} → r ≡ Err NoMemory → r ≡ Err Spent → v ≡ 0
memory_left is e = let no : ⊥ = let both = sym is ∙ e in cc in absurd no

module _ {A B : Type 0} {f : A → B} {state : State} {r : Result A Finish} where
  -- at the exit of a `?`: want of memory
  short : {old new : Seen} {run : Task B} {u v : ℕ} → IsErrAnd r (λ e. e ≡ NoMemory) → Ran old new run u None v → Follows old new run u r f state v
  unfolding came_out
  short is p = let e = err_from_is_err_and r is in record { ran = rw (e.1, e.2) p; spent = memory_left (e.1 ∙ ap Err e.2) }

  pub memory_short : {world : Seen} {run : Task B} {u : ℕ} → IsErrAnd r (λ e. e ≡ NoMemory) → Follows world world run u r f state u
  memory_short is = short is not_run

  pub act_short : {old new : Seen} {X : Type 0} {act : Act X} (next : X → Task B) {u : ℕ} → Done old new act None → IsErrAnd r (λ e. e ≡ NoMemory) → Follows old new (and_go_on act next) u r f state u
  act_short next p is = short is (go_short next p)

  -- what follows an act
  pub act_then : {old mid new : Seen} {X : Type 0} {act : Act X} (next : X → Task B) {x : X} {u v : ℕ} → Done old mid act (Some x) → Follows mid new (next x) u r f state v → Follows old new (and_go_on act next) u r f state v
  act_then next p q = record { ran = go_on next p q.ran; spent = q.spent }

  -- what follows a unit
  pub unit_then : {old new : Seen} {run : Task B} {u v : ℕ} (end : End) → 0 < u → Follows old new run (u - 1) r f state v → Follows old new (takes end run) u r f state v
  unit_then end some p = record { ran = unit_taken end some p.ran; spent = p.spent }

  -- what follows a plan
  pub plan_then : {old mid new : Seen} {X C : Type 0} {run : Task C} (next : C → Task B) {g : X → C} {x : X} {earlier : State} {u v w : ℕ}
      → Follows old mid run u (Ok x) g earlier v → Follows mid new (next (g x)) v r f state w → Follows old new (and_then run next) u r f state w
  unfolding came_out
  plan_then next p q = record { ran = then next p.ran q.ran; spent = q.spent }

  -- at the exit of a `?`: want of memory behind a plan
  pub plan_short : {old new : Seen} {X C : Type 0} {run : Task C} (next : C → Task B) {g : X → C} {x : X} {earlier : State} {u v : ℕ}
      → Follows old new run u (Ok x) g earlier v → IsErrAnd r (λ e. e ≡ NoMemory) → Follows old new (and_then run next) u r f state v
  plan_short next p is = plan_then next p (memory_short is)

  -- at the exit of a `?`: the process ended, or want of memory
  pub plan_stopped : {old new : Seen} {X C : Type 0} {run : Task C} (next : C → Task B) {g : X → C} {e : Finish} {u v : ℕ}
      → Follows old new run u (Err e) g state v → IsErrAnd r (λ x. x ≡ e) → Follows old new (and_then run next) u r f state v
  unfolding came_out
  plan_stopped {old} {new} {X} {C} {run} next {g} {e} {u} {v} p is =
      let q = err_from_is_err_and r is in
      record { ran = rw (q.1, q.2) (by e p.ran); spent = λ h. p.spent (let same : e ≡ Spent = let is = q.1 in let which = q.2 in cc in ap Err same) }
    where
      by : (e : Finish) → Ran old new run u (finished e state) v → Ran old new (and_then run next) u (finished {A = B} e state) v
      by (Status code) p = stopped next p
      by Spent p = stopped next p
      by NoMemory p = cut_off next p

-- ---- plans in plans

module _ {A B : Type 0} {f : A → B} {state : State} {r : Result A Finish} {old new : Seen} {u v : ℕ} where
  -- an equal plan
  pub follows_as : {p q : Task B} → p ≡ q → Follows old new p u r f state v → Follows old new q u r f state v
  follows_as e p = subst (λ q. Follows old new q u r f state v) e p

  pub plan_assoc : {C D : Type 0} (p : Task C) (g : C → Task D) (k : D → Task B) → Follows old new (and_then p (λ x. and_then (g x) k)) u r f state v → Follows old new (and_then (and_then p g) k) u r f state v
  plan_assoc p g k h = follows_as (sym (then-assoc p g k)) h

  pub act_assoc : {X D : Type 0} (p : Act X) (g : X → Task D) (k : D → Task B) → Follows old new (and_go_on p (λ x. and_then (g x) k)) u r f state v → Follows old new (and_then (and_go_on p g) k) u r f state v
  act_assoc p g k h = follows_as (sym (go_on-then p g k)) h

  pub acts_assoc : {X Y : Type 0} (p : Act X) (g : X → Act Y) (k : Y → Task B) → Follows old new (and_go_on p (λ x. and_go_on (g x) k)) u r f state v → Follows old new (and_go_on (and_do p g) k) u r f state v
  acts_assoc p g k h = follows_as (sym (do-go_on p g k)) h

  pub gives_then : {C : Type 0} (c : C) (k : C → Task B) → Follows old new (k c) u r f state v → Follows old new (and_then (gives c) k) u r f state v
  unfolding and_then
  gives_then c k h = h

  pub ends_then : {C : Type 0} (end : End) (k : C → Task B) → Follows old new (ends end) u r f state v → Follows old new (and_then (ends end) k) u r f state v
  unfolding and_then
  ends_then end k h = h

  pub takes_then : {C : Type 0} (end : End) (p : Task C) (k : C → Task B) → Follows old new (takes end (and_then p k)) u r f state v → Follows old new (and_then (takes end p) k) u r f state v
  unfolding and_then
  takes_then end p k h = h

-- ---- the ends

module _ {A B : Type 0} {world : Seen} {u : ℕ} {f : A → B} {state : State} where
  pub follows_done : {x : A} {y : B} → y ≡ f x → Follows world world (gives y) u (Ok x) f state u
  unfolding came_out
  follows_done {x} {y} e = record { ran = rw e (ran_at_once (f x)); spent = λ h. let no : ⊥ = cc in absurd no }

  pub follows_exit : {code : ℕ} → Follows world world (ends (end.Status code state)) u (Err (Status code)) f state u
  unfolding came_out
  follows_exit = record { ran = ran_to_end _; spent = λ h. let no : ⊥ = cc in absurd no }

  pub follows_spent : {run : Task B} → u ≡ 0 → Follows world world (takes (end.Spent state) run) u (Err Spent) f state u
  unfolding came_out
  follows_spent none = record { ran = no_unit _ none; spent = λ _. none }

-- ---- what a whole run tells

pub follows_tells : {A B : Type 0} {old new : Seen} {run : Task B} {u v : ℕ} {r : Result A Finish} {f : A → B} {state : State} → Follows old new run u r f state v → Tells old new run u (came_out r f state)
follows_tells p = tells p.ran

-- ---- units

-- units are never gained
pub follows_units : {A B : Type 0} {old new : Seen} {run : Task B} {u v : ℕ} {r : Result A Finish} {f : A → B} {state : State} → Follows old new run u r f state v → r ≢ Err NoMemory → v ≤ u
unfolding came_out
follows_units {A} {B} {old} {new} {run} {u} {v} {r} {f} {state} p some = by r some p.ran
  where
    by : (r : Result A Finish) → r ≢ Err NoMemory → Ran old new run u (came_out r f state) v → v ≤ u
    by (Ok x) some ran = ran-units ran
    by (Err (Status code)) some ran = ran-units ran
    by (Err Spent) some ran = ran-units ran
    by (Err NoMemory) some ran = absurd (some refl)

pub ruleset stops = (memory_short, plan_short, act_short, act_then, unit_then, plan_then, plan_stopped, follows_done, follows_exit, follows_spent)

-- moves what is done inside of a plan in front of it
pub ruleset nested = (plan_assoc, act_assoc, acts_assoc, gives_then, ends_then, takes_then)

-- Units are never gained.
use Rattle.std.proofs.Common.{ℕ, suc, ◌≤◌, List, [], ◌∷◌, Some, arith}
use Rattle.el_world.specs.declared.event.Event.{Event}
use Rattle.el_world.specs.World.{Seen}
use Rattle.el_world.specs.Plans.{Plan, gives, ends, takes, calls, Outcome, Does}
use Rattle.el_world.specs.Runs.{Ran}

-- a plan that comes out leaves no more units than there were
pub does-units : {E A : Type 0} (plan : Plan E A) (u : ℕ) (events : List Event) (out : Outcome E A) (v : ℕ) → Does plan u events out v → v ≤ u
does-units (gives a) u [] out v p = let same = p.1 in omega arith
does-units (gives a) u (event ∷ events) out v p = absurd p
does-units (ends end) u [] out v p = let same = p.1 in omega arith
does-units (ends end) u (event ∷ events) out v p = absurd p
does-units (takes end plan) Prim.Native.Nat.zero [] out v p = let same = p.1 in omega arith
does-units (takes end plan) Prim.Native.Nat.zero (event ∷ events) out v p = absurd p
does-units (takes end plan) (suc u) events out v p = let less : v ≤ u = does-units plan u events out v p in omega arith
does-units (calls call after) u [] out v p = absurd p
does-units (calls call after) u (event ∷ events) out v p = does-units (after p.0) u events out v p.2

pub ran-units : {E A : Type 0} {old new : Seen} {run : Plan E A} {u v : ℕ} {out : Outcome E A} → Ran old new run u (Some out) v → v ≤ u
ran-units {run = run} {u = u} {v = v} {out = out} p = does-units run u p.events out v p.agrees

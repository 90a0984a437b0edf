-- A larger budget only goes on.
use Rattle.el_room.specs.Vocabulary.{Vars, Event, Call, AnswerOf, Found, Plan, gives, ends, takes, calls, ended, Made, made}
use Rattle.std.specs.Prelude.{◌≡◌, ◌≢◌, ℕ, suc, ◌+◌, ◌-◌, ◌≤◌, Bool, true, false, List, ◌++◌, Option, None, Some}
use Rattle.el_world.specs.Calls.{taken}
use Rattle.el_app.specs.Calls.{status, execlineb_call}

-- by the answer of a call, if the next one is of its kind; without one nothing runs out
abbrev pub out_behind : (call : Call) → (AnswerOf call → List Found → Bool) → Option (AnswerOf call × List Found) → Bool
out_behind call after None = false
out_behind call after (Some next) = after next.0 next.1

module _ {E A : Type 0} where
  -- on these answers a unit is due and none is left
  abbrev pub runs_out : Plan E A → (units : ℕ) → List Found → Bool
  runs_out (gives a) units found = false
  runs_out (ends end) units found = false
  runs_out (takes end plan) Prim.Native.Nat.zero found = true
  runs_out (takes end plan) (suc units) found = runs_out plan units found
  runs_out (calls call after) units found = out_behind call (λ answer left. runs_out (after answer) units left) (taken call found)

  -- the same, with so many more units left
  abbrev pub with_more : (units : ℕ) → Made E A → Made E A
  with_more units rest = record rest { units = rest.units + units }

module _ (E A : Type 0) where
  -- what a plan made without want of a unit it makes with more units too, and the more of them are left
  abbrev pub MoreUnitsGoOn : Type 0
  MoreUnitsGoOn = (plan : Plan E A) (few many : ℕ) (found : List Found) → few ≤ many → runs_out plan few found ≡ false → made plan many found ≡ with_more (many - few) (made plan few found)

  -- where a unit is left none was wanting
  abbrev pub LeftIsEnough : Type 0
  LeftIsEnough = (plan : Plan E A) (units : ℕ) (found : List Found) → (made plan units found).units ≢ 0 → runs_out plan units found ≡ false

  -- in any case its events are a beginning of those that it makes with more units
  abbrev pub EventsBegin : Type 0
  EventsBegin = (plan : Plan E A) (few many : ℕ) (found : List Found) → few ≤ many → (rest : List Event) × ((made plan many found).events ≡ (made plan few found).events ++ rest)

-- A run of execlineb that ends with a status makes the same calls under every larger budget, where they are answered in the same way, and
-- ends with this status too.
abbrev pub StatusStays : Type 0
StatusStays = (words : List (List ℕ)) (env : Vars) (dir : List ℕ) (code few many : ℕ) (found : List Found) → few ≤ many → (made (execlineb_call words env dir) few found).outcome ≡ ended (status code)
    → made (execlineb_call words env dir) many found ≡ with_more (many - few) (made (execlineb_call words env dir) few found)

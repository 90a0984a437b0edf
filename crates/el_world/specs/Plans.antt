-- Plans: what a process does. Besides calls there are units, of which none may be left, and the process's end.
use Rattle.std.specs.Prelude.{◌≡◌, ℕ, suc, List, [], ◌∷◌, Option, None, Some}
use Rattle.el_world.specs.declared.event.Event.{Event}
use Rattle.el_world.specs.Calls.{Call, AnswerOf, event_of, Found, taken}
use Rattle.el_world.specs.Acts as act
use Rattle.el_world.specs.Acts.{Act}

-- a result; the process's end; a unit and what follows it, with the end where none is left; or a call and what follows each answer
pub data Plan (E A : Type 0) : Type 0 where
  gives : A → Plan E A
  ends : E → Plan E A
  takes : E → Plan E A → Plan E A
  calls : (call : Call) → (AnswerOf call → Plan E A) → Plan E A

module _ {E A B : Type 0} where
  -- one plan, and then another by the result of the first
  unfoldable pub and_then : Plan E A → (A → Plan E B) → Plan E B
  and_then (gives a) next = next a
  and_then (ends end) next = ends end
  and_then (takes end plan) next = takes end (and_then plan next)
  and_then (calls call after) next = calls call (λ answer. and_then (after answer) next)

  -- an act, and then a plan by its result
  unfoldable pub and_go_on : Act A → (A → Plan E B) → Plan E B
  and_go_on (act.gives a) next = next a
  and_go_on (act.calls call after) next = calls call (λ answer. and_go_on (after answer) next)

module _ {E F A : Type 0} (of : E → F) where
  -- the same plan, whose ends are these
  unfoldable pub ends_as : Plan E A → Plan F A
  ends_as (gives a) = gives a
  ends_as (ends end) = ends (of end)
  ends_as (takes end plan) = takes (of end) (ends_as plan)
  ends_as (calls call after) = calls call (λ answer. ends_as (after answer))

-- how a plan comes out: with a result, with the process's end, or with a call that is due and no answer of its kind
pub data Outcome (E A : Type 0) : Type 0 where
  given : A → Outcome E A
  ended : E → Outcome E A
  starved : Outcome E A

-- the same outcome, whose end is changed so
abbrev pub outcome_as : {E F A : Type 0} → (E → F) → Outcome E A → Outcome F A
outcome_as of (given a) = given a
outcome_as of (ended end) = ended (of end)
outcome_as of starved = starved

-- what a plan makes of units and answers: its events, how it comes out, and the units and answers left
pub record Made (E A : Type 0) : Type 0 where
  pub events : List Event
  pub outcome : Outcome E A
  pub units : ℕ
  pub left : List Found

module _ {E A : Type 0} where
  -- one event before the rest
  abbrev pub after_event : Event → Made E A → Made E A
  after_event event rest = record rest { events = event ∷ rest.events }

  -- a call with its answer, if the next one is of its kind, and what is made of the rest; without one the plan is starved
  abbrev pub answered : (call : Call) → (AnswerOf call → List Found → Made E A) → ℕ → List Found → Option (AnswerOf call × List Found) → Made E A
  answered call after units found None = record { events = []; outcome = starved; units = units; left = found }
  answered call after units found (Some next) = after_event (event_of call next.0) (after next.0 next.1)

  -- what the plan makes of so many units and these answers
  abbrev pub made : Plan E A → ℕ → List Found → Made E A
  made (gives a) units found = record { events = []; outcome = given a; units = units; left = found }
  made (ends end) units found = record { events = []; outcome = ended end; units = units; left = found }
  made (takes end plan) Prim.Native.Nat.zero found = record { events = []; outcome = ended end; units = 0; left = found }
  made (takes end plan) (suc units) found = made plan units found
  made (calls call after) units found = answered call (λ answer left. made (after answer) units left) units found (taken call found)

  -- with so many units the plan makes these events on their answers and comes out so, with these units left
  abbrev pub Does : Plan E A → ℕ → List Event → Outcome E A → ℕ → Type 0
  Does (gives a) units [] outcome left = (outcome ≡ given a) × (left ≡ units)
  Does (gives a) units (event ∷ events) outcome left = ⊥
  Does (ends end) units [] outcome left = (outcome ≡ ended end) × (left ≡ units)
  Does (ends end) units (event ∷ events) outcome left = ⊥
  Does (takes end plan) Prim.Native.Nat.zero [] outcome left = (outcome ≡ ended end) × (left ≡ 0)
  Does (takes end plan) Prim.Native.Nat.zero (event ∷ events) outcome left = ⊥
  Does (takes end plan) (suc units) events outcome left = Does plan units events outcome left
  Does (calls call after) units [] outcome left = ⊥
  Does (calls call after) units (event ∷ events) outcome left = (answer : AnswerOf call) × (event ≡ event_of call answer) × Does (after answer) units events outcome left

  -- with so many units the plan begins with these events on their answers
  abbrev pub Begins : Plan E A → ℕ → List Event → Type 0
  Begins plan units [] = Unit {0}
  Begins (gives a) units (event ∷ events) = ⊥
  Begins (ends end) units (event ∷ events) = ⊥
  Begins (takes end plan) Prim.Native.Nat.zero (event ∷ events) = ⊥
  Begins (takes end plan) (suc units) (event ∷ events) = Begins plan units (event ∷ events)
  Begins (calls call after) units (event ∷ events) = (answer : AnswerOf call) × (event ≡ event_of call answer) × Begins (after answer) units events

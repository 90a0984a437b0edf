-- What plans give, what they make in turn, and plans that are the same up to a number of units.
use Rattle.std.proofs.Common.{◌≡◌, ℕ, suc, ◌≤◌, ◌<◌, List, ◌∷◌, ◌++◌, Option, None, Some, refl, sym, ap, ◌∙◌, arith, le_refl}
use Rattle.el_world.specs.declared.event.Event.{Event}
use Rattle.el_world.specs.World.{Seen}
use Rattle.el_world.specs.Calls.{Call, AnswerOf, event_of, Found, found_in, taken}
use Rattle.el_world.specs.Acts as act
use Rattle.el_world.specs.Acts.{Act}
use Rattle.el_world.specs.Plans.{Plan, gives, ends, takes, calls, and_then, and_go_on, Outcome, given, ended, starved, Made, made, answered, after_event}
use Rattle.el_world.specs.Upto.{AllGiven, SameUpto}
use Rattle.el_world.specs.Runs.{Tells, AreEventsOf}

-- ---- what a plan may give

module _ {E A : Type 0} where
  pub given-any : (P : A → Type 0) (plan : Plan E A) → ((a : A) → P a) → AllGiven P plan
  given-any P (gives a) h = h a
  given-any P (ends end) h = tt
  given-any P (takes end plan) h = given-any P plan h
  given-any P (calls call after) h = λ answer. given-any P (after answer) h

  pub given-weaker : (P Q : A → Type 0) (plan : Plan E A) → ((a : A) → P a → Q a) → AllGiven P plan → AllGiven Q plan
  given-weaker P Q (gives a) f h = f a h
  given-weaker P Q (ends end) f h = tt
  given-weaker P Q (takes end plan) f h = given-weaker P Q plan f h
  given-weaker P Q (calls call after) f h = λ answer. given-weaker P Q (after answer) f (h answer)

  -- what a plan made was among it
  pub given-made : (P : A → Type 0) (plan : Plan E A) (u : ℕ) (found : List Found) (a : A) → AllGiven P plan → (made plan u found).outcome ≡ given a → P a
  given-made P (gives b) u found a h e = let same : a ≡ b = cc in rw same h
  given-made P (ends end) u found a h e = let no : ⊥ = cc in absurd no
  given-made P (takes end plan) Prim.Native.Nat.zero found a h e = let no : ⊥ = cc in absurd no
  given-made P (takes end plan) (suc u) found a h e = given-made P plan u found a h e
  given-made P (calls call after) u found a h e = by (λ answer left. given-made P (after answer) u left a (h answer)) (taken call found) e
    where
      by : ((answer : AnswerOf call) (left : List Found) → (made (after answer) u left).outcome ≡ given a → P a)
          → (next : Option (AnswerOf call × List Found)) → (answered call (λ b left. made (after b) u left) u found next).outcome ≡ given a → P a
      by rest None e = let no : ⊥ = cc in absurd no
      by rest (Some next) e = rest next.0 next.1 e

module _ {E A B : Type 0} (P : B → Type 0) where
  -- what follows each result that may be given gives what the whole gives
  pub given-then : (Q : A → Type 0) (plan : Plan E A) (next : A → Plan E B) → ((a : A) → Q a → AllGiven P (next a)) → AllGiven Q plan → AllGiven P (and_then plan next)
  unfolding and_then
  given-then Q (gives a) next h q = h a q
  given-then Q (ends end) next h q = tt
  given-then Q (takes end plan) next h q = given-then Q plan next h q
  given-then Q (calls call after) next h q = λ answer. given-then Q (after answer) next h (q answer)

  pub given-go_on : (first : Act A) (next : A → Plan E B) → ((a : A) → AllGiven P (next a)) → AllGiven P (and_go_on first next)
  unfolding and_go_on
  given-go_on (act.gives a) next h = h a
  given-go_on (act.calls call after) next h = λ answer. given-go_on (after answer) next h

-- ---- what plans make in turn

module _ {E A B : Type 0} (next : A → Plan E B) where
  abbrev pub by_outcome : List Event → Outcome E A → ℕ → List Found → Made E B
  by_outcome events (given a) units left = record (made (next a) units left) { events = events ++ (made (next a) units left).events }
  by_outcome events (ended end) units left = record { events = events; outcome = ended end; units = units; left = left }
  by_outcome events starved units left = record { events = events; outcome = starved; units = units; left = left }

  -- a plan made this, and the next goes on where it gave a result; an end stays the end
  abbrev pub then_made : Made E A → Made E B
  then_made meant = by_outcome meant.events meant.outcome meant.units meant.left

  more : (event : Event) (events : List Event) (out : Outcome E A) (units : ℕ) (left : List Found) → after_event event (by_outcome events out units left) ≡ by_outcome (event ∷ events) out units left
  more event events (given a) units left = refl
  more event events (ended end) units left = refl
  more event events starved units left = refl

  pub made-then : (plan : Plan E A) (u : ℕ) (found : List Found) → made (and_then plan next) u found ≡ then_made (made plan u found)
  unfolding and_then
  made-then (gives a) u found = refl
  made-then (ends end) u found = refl
  made-then (takes end plan) Prim.Native.Nat.zero found = refl
  made-then (takes end plan) (suc u) found = made-then plan u found
  made-then (calls call after) u found = by (λ answer left. made-then (after answer) u left) (taken call found)
    where
      by : ((answer : AnswerOf call) (left : List Found) → made (and_then (after answer) next) u left ≡ then_made (made (after answer) u left))
          → (other : Option (AnswerOf call × List Found)) → answered call (λ a left. made (and_then (after a) next) u left) u found other ≡ then_made (answered call (λ a left. made (after a) u left) u found other)
      by rest None = refl
      by rest (Some other) =
          let first = made (after other.0) u other.1 in
          ap (after_event (event_of call other.0)) (rest other.0 other.1) ∙ more (event_of call other.0) first.events first.outcome first.units first.left

  -- the end of a plan is the end of the whole, whatever would come after it
  pub made-ended : (plan : Plan E A) (u : ℕ) (found : List Found) (end : E) → (made plan u found).outcome ≡ ended end
      → made (and_then plan next) u found ≡ record { events = (made plan u found).events; outcome = ended end; units = (made plan u found).units; left = (made plan u found).left }
  made-ended plan u found end is = made-then plan u found ∙ ap (λ out. by_outcome (made plan u found).events out (made plan u found).units (made plan u found).left) is

module _ {E A : Type 0} where
  -- units are never gained
  pub made-units : (plan : Plan E A) (u : ℕ) (found : List Found) → (made plan u found).units ≤ u
  made-units (gives a) u found = le_refl u
  made-units (ends end) u found = le_refl u
  made-units (takes end plan) Prim.Native.Nat.zero found = le_refl 0
  made-units (takes end plan) (suc u) found = let less : (made plan u found).units ≤ u = made-units plan u found in omega arith
  made-units (calls call after) u found = by (λ answer left. made-units (after answer) u left) (taken call found)
    where
      by : ((answer : AnswerOf call) (left : List Found) → (made (after answer) u left).units ≤ u)
          → (next : Option (AnswerOf call × List Found)) → (answered call (λ a left. made (after a) u left) u found next).units ≤ u
      by rest None = le_refl u
      by rest (Some next) = rest next.0 next.1

-- ---- plans that are the same up to a number of units

module _ {E A : Type 0} where
  pub same-as : (u : ℕ) {p q : Plan E A} → p ≡ q → SameUpto u p q
  same-as u e = record { same = λ v le found. ap (λ plan. made plan v found) e }

  pub same-refl : (u : ℕ) (p : Plan E A) → SameUpto u p p
  same-refl u p = record { same = λ v le found. refl }

  pub same-sym : {u : ℕ} {p q : Plan E A} → SameUpto u p q → SameUpto u q p
  same-sym h = record { same = λ v le found. sym (h.same v le found) }

  pub same-trans : {u : ℕ} {p q r : Plan E A} → SameUpto u p q → SameUpto u q r → SameUpto u p r
  same-trans h k = record { same = λ v le found. h.same v le found ∙ k.same v le found }

  -- with fewer units too
  pub same-fewer : {u v : ℕ} {p q : Plan E A} → v ≤ u → SameUpto u p q → SameUpto v p q
  same-fewer fewer h = record { same = λ w le found. h.same w (omega arith) found }

  -- behind a unit they need be the same with fewer units only
  pub same-takes : (end : E) (p q : Plan E A) (u : ℕ) → ((w : ℕ) → w < u → SameUpto w p q) → SameUpto u (takes end p) (takes end q)
  same-takes end p q u h = record { same = λ v. elim v as (λ v. v ≤ u → (found : List Found) → made (takes end p) v found ≡ made (takes end q) v found) [ Prim.Native.Nat.zero ↦ λ le found. refl | suc w ↦ λ le found. (h w le).same w (le_refl w) found ] }

  -- behind a call, for each answer
  pub same-calls : (call : Call) (f g : AnswerOf call → Plan E A) (u : ℕ) → ((answer : AnswerOf call) → SameUpto u (f answer) (g answer)) → SameUpto u (calls call f) (calls call g)
  same-calls call f g u h = record { same = λ v le found. by v le found (taken call found) }
    where
      by : (v : ℕ) → v ≤ u → (found : List Found) (next : Option (AnswerOf call × List Found)) → answered call (λ a left. made (f a) v left) v found next ≡ answered call (λ a left. made (g a) v left) v found next
      by v le found None = refl
      by v le found (Some next) = ap (after_event (event_of call next.0)) ((h next.0).same v le next.1)

  -- what is told of a run of one is told of the other
  pub same-tells : {old new : Seen} {p q : Plan E A} {u v : ℕ} {out : Option (Outcome E A)} → SameUpto u p q → v ≤ u → Tells old new p v out → Tells old new q v out
  same-tells {old} {new} {p} {q} {u} {v} {out} h le t = record {
    told = λ before is. let told = t.told before is in (told.0, told.1, told.2, by told.0 told.3);
    untold = t.untold;
    origin = t.origin;
  }
    where
      by : (added : List Event) → AreEventsOf added (made p v (found_in added)) out → AreEventsOf added (made q v (found_in added)) out
      by added are = rw (sym (h.same v le (found_in added))) are

module _ {E A B : Type 0} where
  -- the same plans one after the other, where what follows is the same for all that may be given
  pub same-then : (p q : Plan E A) (f g : A → Plan E B) (u : ℕ) → SameUpto u p q → AllGiven (λ a. SameUpto u (f a) (g a)) p → SameUpto u (and_then p f) (and_then q g)
  same-then p q f g u first after = record { same = λ v le found. made-then f p v found ∙ by v le found (made p v found).outcome refl ∙ ap (then_made g) (first.same v le found) ∙ sym (made-then g q v found) }
    where
      by : (v : ℕ) → v ≤ u → (found : List Found) (out : Outcome E A) → (made p v found).outcome ≡ out
          → by_outcome f (made p v found).events (made p v found).outcome (made p v found).units (made p v found).left ≡ by_outcome g (made p v found).events (made p v found).outcome (made p v found).units (made p v found).left
      by v le found (given a) is =
          let next : SameUpto u (f a) (g a) = given-made (λ a. SameUpto u (f a) (g a)) p v found a after is in
          let fewer : (made p v found).units ≤ u = let less : (made p v found).units ≤ v = made-units p v found in omega arith in
          rw is (ap (λ (rest : Made E B). record rest { events = (made p v found).events ++ rest.events }) (next.same (made p v found).units fewer (made p v found).left))
      by v le found (ended end) is = rw is refl
      by v le found starved is = rw is refl

  pub same-go_on : (first : Act A) (f g : A → Plan E B) (u : ℕ) → ((a : A) → SameUpto u (f a) (g a)) → SameUpto u (and_go_on first f) (and_go_on first g)
  unfolding and_go_on
  same-go_on (act.gives a) f g u h = h a
  same-go_on (act.calls call after) f g u h = same-calls call (λ answer. and_go_on (after answer) f) (λ answer. and_go_on (after answer) g) u (λ answer. same-go_on (after answer) f g u h)

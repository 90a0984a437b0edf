-- Acts and plans in one another, as equations.
use Rattle.std.proofs.Common.{◌≡◌, refl, ap}
use Rattle.el_world.specs.Acts as act
use Rattle.el_world.specs.Acts.{Act, and_do}
use Rattle.el_world.specs.Plans.{Plan, gives, ends, takes, calls, and_then, and_go_on, ends_as}

module _ {A B C : Type 0} where
  pub do-assoc : (first : Act A) (f : A → Act B) (g : B → Act C) → and_do (and_do first f) g ≡ and_do first (λ a. and_do (f a) g)
  unfolding and_do
  do-assoc (act.gives a) f g = refl
  do-assoc (act.calls call after) f g = λ i. act.calls call (λ answer. do-assoc (after answer) f g i)

module _ {A : Type 0} where
  pub do-gives : (first : Act A) → and_do first act.gives ≡ first
  unfolding and_do
  do-gives (act.gives a) = refl
  do-gives (act.calls call after) = λ i. act.calls call (λ answer. do-gives (after answer) i)

module _ {E A B C : Type 0} where
  -- plans one after the other
  pub then-assoc : (first : Plan E A) (f : A → Plan E B) (g : B → Plan E C) → and_then (and_then first f) g ≡ and_then first (λ a. and_then (f a) g)
  unfolding and_then
  then-assoc (gives a) f g = refl
  then-assoc (ends end) f g = refl
  then-assoc (takes end plan) f g = ap (takes end) (then-assoc plan f g)
  then-assoc (calls call after) f g = λ i. calls call (λ answer. then-assoc (after answer) f g i)

  -- an act, and then plans
  pub go_on-then : (first : Act A) (f : A → Plan E B) (g : B → Plan E C) → and_then (and_go_on first f) g ≡ and_go_on first (λ a. and_then (f a) g)
  unfolding and_then and_go_on
  go_on-then (act.gives a) f g = refl
  go_on-then (act.calls call after) f g = λ i. calls call (λ answer. go_on-then (after answer) f g i)

  -- acts, and then a plan
  pub do-go_on : (first : Act A) (f : A → Act B) (g : B → Plan E C) → and_go_on (and_do first f) g ≡ and_go_on first (λ a. and_go_on (f a) g)
  unfolding and_do and_go_on
  do-go_on (act.gives a) f g = refl
  do-go_on (act.calls call after) f g = λ i. calls call (λ answer. do-go_on (after answer) f g i)

module _ {E A : Type 0} where
  pub then-gives : (plan : Plan E A) → and_then plan gives ≡ plan
  unfolding and_then
  then-gives (gives a) = refl
  then-gives (ends end) = refl
  then-gives (takes end plan) = ap (takes end) (then-gives plan)
  then-gives (calls call after) = λ i. calls call (λ answer. then-gives (after answer) i)

module _ {E F A B : Type 0} (of : E → F) where
  -- ends may be changed in each part
  pub ends_as-then : (first : Plan E A) (next : A → Plan E B) → ends_as of (and_then first next) ≡ and_then (ends_as of first) (λ a. ends_as of (next a))
  unfolding and_then ends_as
  ends_as-then (gives a) next = refl
  ends_as-then (ends end) next = refl
  ends_as-then (takes end plan) next = ap (takes (of end)) (ends_as-then plan next)
  ends_as-then (calls call after) next = λ i. calls call (λ answer. ends_as-then (after answer) next i)

  pub ends_as-go_on : (first : Act A) (next : A → Plan E B) → ends_as of (and_go_on first next) ≡ and_go_on first (λ a. ends_as of (next a))
  unfolding and_go_on ends_as
  ends_as-go_on (act.gives a) next = refl
  ends_as-go_on (act.calls call after) next = λ i. calls call (λ answer. ends_as-go_on (after answer) next i)

-- How acts go on.
use Rattle.std.proofs.Common.{List, [], ◌∷◌, ◌++◌, subst}
use Rattle.el_world.specs.declared.event.Event.{Event}
use Rattle.el_world.specs.Acts.{Act, gives, calls, and_do, Does, Begins}

module _ {A B : Type 0} (next : A → Act B) where
  pub does-and_do : (act : Act A) (one two : List Event) (a : A) (b : B) → Does act one a → Does (next a) two b → Does (and_do act next) (one ++ two) b
  unfolding and_do
  does-and_do (gives x) [] two a b p q = subst (λ a. Does (next a) two b) p q
  does-and_do (gives x) (event ∷ one) two a b p q = absurd p
  does-and_do (calls call after) [] two a b p q = absurd p
  does-and_do (calls call after) (event ∷ one) two a b p q = (p.0, p.1, does-and_do (after p.0) one two a b p.2 q)

  pub begins-later : (act : Act A) (one two : List Event) (a : A) → Does act one a → Begins (next a) two → Begins (and_do act next) (one ++ two)
  unfolding and_do
  begins-later (gives x) [] two a p q = subst (λ a. Begins (next a) two) p q
  begins-later (gives x) (event ∷ one) two a p q = absurd p
  begins-later (calls call after) [] two a p q = absurd p
  begins-later (calls call after) (event ∷ one) two a p q = (p.0, p.1, begins-later (after p.0) one two a p.2 q)

  pub begins-and_do : (act : Act A) (one : List Event) → Begins act one → Begins (and_do act next) one
  unfolding and_do
  begins-and_do act [] p = tt
  begins-and_do (gives x) (event ∷ one) p = absurd p
  begins-and_do (calls call after) (event ∷ one) p = (p.0, p.1, begins-and_do (after p.0) one p.2)

-- How plans go on, and what they make.
use Rattle.std.proofs.Common.{◌≡◌, ℕ, suc, List, [], ◌∷◌, ◌++◌, Some, refl, sym, ap, ◌∙◌, subst}
use Rattle.el_world.specs.declared.event.Event.{Event}
use Rattle.el_world.specs.Calls.{Call, AnswerOf, event_of, Found, found_in, taken, start, wait, open_file, pipe, feed, read, write, close, enter}
use Rattle.el_world.specs.Acts as act
use Rattle.el_world.specs.Acts.{Act}
use Rattle.el_world.specs.Plans.{Plan, gives, ends, takes, calls, and_then, and_go_on, Outcome, given, ended, Made, made, answered, after_event, Does, Begins}

module _ {E A B : Type 0} (next : A → Plan E B) where
  pub does-and_go_on : (done : Act A) (one two : List Event) (a : A) (u : ℕ) (out : Outcome E B) (v : ℕ) → act.Does done one a → Does (next a) u two out v → Does (and_go_on done next) u (one ++ two) out v
  unfolding and_go_on
  does-and_go_on (act.gives x) [] two a u out v p q = subst (λ a. Does (next a) u two out v) p q
  does-and_go_on (act.gives x) (event ∷ one) two a u out v p q = absurd p
  does-and_go_on (act.calls call after) [] two a u out v p q = absurd p
  does-and_go_on (act.calls call after) (event ∷ one) two a u out v p q = (p.0, p.1, does-and_go_on (after p.0) one two a u out v p.2 q)

  pub begins_on : (done : Act A) (one two : List Event) (a : A) (u : ℕ) → act.Does done one a → Begins (next a) u two → Begins (and_go_on done next) u (one ++ two)
  unfolding and_go_on
  begins_on (act.gives x) [] two a u p q = subst (λ a. Begins (next a) u two) p q
  begins_on (act.gives x) (event ∷ one) two a u p q = absurd p
  begins_on (act.calls call after) [] two a u p q = absurd p
  begins_on (act.calls call after) (event ∷ one) two a u p q = (p.0, p.1, begins_on (after p.0) one two a u p.2 q)

  pub begins-and_go_on : (done : Act A) (one : List Event) (u : ℕ) → act.Begins done one → Begins (and_go_on done next) u one
  unfolding and_go_on
  begins-and_go_on done [] u p = tt
  begins-and_go_on (act.gives x) (event ∷ one) u p = absurd p
  begins-and_go_on (act.calls call after) (event ∷ one) u p = (p.0, p.1, begins-and_go_on (after p.0) one u p.2)

  pub does-and_then : (plan : Plan E A) (u : ℕ) (one two : List Event) (a : A) (v : ℕ) (out : Outcome E B) (w : ℕ) → Does plan u one (given a) v → Does (next a) v two out w → Does (and_then plan next) u (one ++ two) out w
  unfolding and_then
  does-and_then (gives x) u [] two a v out w p q =
      let same : a ≡ x = let e = p.0 in cc in
      subst (λ n. Does (next x) n two out w) p.1 (subst (λ b. Does (next b) v two out w) same q)
  does-and_then (gives x) u (event ∷ one) two a v out w p q = absurd p
  does-and_then (ends end) u [] two a v out w p q = let no : ⊥ = let e = p.0 in cc in absurd no
  does-and_then (ends end) u (event ∷ one) two a v out w p q = absurd p
  does-and_then (takes end plan) Prim.Native.Nat.zero [] two a v out w p q = let no : ⊥ = let e = p.0 in cc in absurd no
  does-and_then (takes end plan) Prim.Native.Nat.zero (event ∷ one) two a v out w p q = absurd p
  does-and_then (takes end plan) (suc u) one two a v out w p q = does-and_then plan u one two a v out w p q
  does-and_then (calls call after) u [] two a v out w p q = absurd p
  does-and_then (calls call after) u (event ∷ one) two a v out w p q = (p.0, p.1, does-and_then (after p.0) u one two a v out w p.2 q)

  -- an end is the end of all
  pub does-ended : (plan : Plan E A) (u : ℕ) (one : List Event) (end : E) (v : ℕ) → Does plan u one (ended end) v → Does (and_then plan next) u one (ended end) v
  unfolding and_then
  does-ended (gives x) u [] end v p = let no : ⊥ = let e = p.0 in cc in absurd no
  does-ended (gives x) u (event ∷ one) end v p = absurd p
  does-ended (ends other) u [] end v p = let same : end ≡ other = let e = p.0 in cc in (ap ended same, p.1)
  does-ended (ends other) u (event ∷ one) end v p = absurd p
  does-ended (takes other plan) Prim.Native.Nat.zero [] end v p = let same : end ≡ other = let e = p.0 in cc in (ap ended same, p.1)
  does-ended (takes other plan) Prim.Native.Nat.zero (event ∷ one) end v p = absurd p
  does-ended (takes other plan) (suc u) one end v p = does-ended plan u one end v p
  does-ended (calls call after) u [] end v p = absurd p
  does-ended (calls call after) u (event ∷ one) end v p = (p.0, p.1, does-ended (after p.0) u one end v p.2)

  pub begins-then : (plan : Plan E A) (u : ℕ) (one two : List Event) (a : A) (v : ℕ) → Does plan u one (given a) v → Begins (next a) v two → Begins (and_then plan next) u (one ++ two)
  unfolding and_then
  begins-then (gives x) u [] two a v p q =
      let same : a ≡ x = let e = p.0 in cc in
      subst (λ n. Begins (next x) n two) p.1 (subst (λ b. Begins (next b) v two) same q)
  begins-then (gives x) u (event ∷ one) two a v p q = absurd p
  begins-then (ends end) u [] two a v p q = let no : ⊥ = let e = p.0 in cc in absurd no
  begins-then (ends end) u (event ∷ one) two a v p q = absurd p
  begins-then (takes end plan) Prim.Native.Nat.zero [] two a v p q = let no : ⊥ = let e = p.0 in cc in absurd no
  begins-then (takes end plan) Prim.Native.Nat.zero (event ∷ one) two a v p q = absurd p
  begins-then (takes end plan) (suc u) [] [] a v p q = tt
  begins-then (takes end plan) (suc u) [] (e ∷ two) a v p q = begins-then plan u [] (e ∷ two) a v p q
  begins-then (takes end plan) (suc u) (event ∷ one) two a v p q = begins-then plan u (event ∷ one) two a v p q
  begins-then (calls call after) u [] two a v p q = absurd p
  begins-then (calls call after) u (event ∷ one) two a v p q = (p.0, p.1, begins-then (after p.0) u one two a v p.2 q)

  pub begins-and_then : (plan : Plan E A) (u : ℕ) (one : List Event) → Begins plan u one → Begins (and_then plan next) u one
  unfolding and_then
  begins-and_then plan u [] p = tt
  begins-and_then (gives x) u (event ∷ one) p = absurd p
  begins-and_then (ends end) u (event ∷ one) p = absurd p
  begins-and_then (takes end plan) Prim.Native.Nat.zero (event ∷ one) p = absurd p
  begins-and_then (takes end plan) (suc u) (event ∷ one) p = begins-and_then plan u (event ∷ one) p
  begins-and_then (calls call after) u (event ∷ one) p = (p.0, p.1, begins-and_then (after p.0) u one p.2)

-- ---- what a plan makes of the answers in its events

taken-event : (call : Call) (answer : AnswerOf call) (events : List Event) (rest : List Found) → taken call (found_in (event_of call answer ∷ events) ++ rest) ≡ Some (answer, found_in events ++ rest)
taken-event (start words env dir handles) answer events rest = refl
taken-event (wait pid) answer events rest = refl
taken-event (open_file dir path mode) answer events rest = refl
taken-event pipe answer events rest = refl
taken-event (feed bytes) answer events rest = refl
taken-event (read handle) answer events rest = refl
taken-event (write handle bytes) answer events rest = refl
taken-event (close handle) answer events rest = refl
taken-event (enter dir path) answer events rest = refl

module _ {E A : Type 0} where
  made-event : (call : Call) (after : AnswerOf call → Plan E A) (u : ℕ) (event : Event) (events : List Event) (rest : List Found) (answer : AnswerOf call) → event ≡ event_of call answer
      → made (calls call after) u (found_in (event ∷ events) ++ rest) ≡ after_event event (made (after answer) u (found_in events ++ rest))
  made-event call after u event events rest answer is =
      ap (λ e. made (calls call after) u (found_in (e ∷ events) ++ rest)) is
      ∙ ap (answered call (λ a left. made (after a) u left) u (found_in (event_of call answer ∷ events) ++ rest)) (taken-event call answer events rest)
      ∙ ap (λ e. after_event e (made (after answer) u (found_in events ++ rest))) (sym is)

  pub made-does : (plan : Plan E A) (u : ℕ) (events : List Event) (out : Outcome E A) (v : ℕ) (rest : List Found) → Does plan u events out v
      → made plan u (found_in events ++ rest) ≡ record { events = events; outcome = out; units = v; left = rest }
  made-does (gives a) u [] out v rest p = λ i. record { events = []; outcome = sym p.0 i; units = sym p.1 i; left = rest }
  made-does (gives a) u (event ∷ events) out v rest p = absurd p
  made-does (ends end) u [] out v rest p = λ i. record { events = []; outcome = sym p.0 i; units = sym p.1 i; left = rest }
  made-does (ends end) u (event ∷ events) out v rest p = absurd p
  made-does (takes end plan) Prim.Native.Nat.zero [] out v rest p = λ i. record { events = []; outcome = sym p.0 i; units = sym p.1 i; left = rest }
  made-does (takes end plan) Prim.Native.Nat.zero (event ∷ events) out v rest p = absurd p
  made-does (takes end plan) (suc u) events out v rest p = made-does plan u events out v rest p
  made-does (calls call after) u [] out v rest p = absurd p
  made-does (calls call after) u (event ∷ events) out v rest p =
      made-event call after u event events rest p.0 p.1 ∙ ap (after_event event) (made-does (after p.0) u events out v rest p.2)

  pub made-begins : (plan : Plan E A) (u : ℕ) (events : List Event) (rest : List Found) → Begins plan u events
      → (later : List Event) × ((made plan u (found_in events ++ rest)).events ≡ events ++ later)
  made-begins plan u [] rest p = ((made plan u rest).events, refl)
  made-begins (gives a) u (event ∷ events) rest p = absurd p
  made-begins (ends end) u (event ∷ events) rest p = absurd p
  made-begins (takes end plan) Prim.Native.Nat.zero (event ∷ events) rest p = absurd p
  made-begins (takes end plan) (suc u) (event ∷ events) rest p = made-begins plan u (event ∷ events) rest p
  made-begins (calls call after) u (event ∷ events) rest p =
      let later = made-begins (after p.0) u events rest p.2 in
      (later.0, ap (λ (m : Made E A). m.events) (made-event call after u event events rest p.0 p.1) ∙ ap (λ es. event ∷ es) later.1)

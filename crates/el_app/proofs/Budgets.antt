-- A larger budget only goes on.
use Rattle.el_room.proofs.Vocabulary.{Vars, execlineb_options, Event, AnswerOf, event_of, Found, taken, Plan, gives, ends, takes, calls, ends_as, Outcome, given, ended, starved, outcome_as, Made, made, answered, after_event, State, End, Task, made-ends_as}
use Rattle.el_machine.proofs.Vocabulary.{Now, Goes, at_first}
use Rattle.std.proofs.Common.{◌≡◌, ◌≢◌, ℕ, suc, ◌+◌, ◌-◌, ◌≤◌, Bool, true, false, true≢false, List, [], ◌∷◌, ◌++◌, Option, None, Some, refl, sym, ap, ◌∙◌, arith}
use Rattle.el_world.specs.States as end
use Rattle.el_machine.proofs.Holds.{behind, Holds, knowing}
use Rattle.el_app.specs.Options.{asked}
use Rattle.el_app.specs.Execlineb.{execlineb_run}
use Rattle.el_app.specs.First.{first_state}
use Rattle.el_app.specs.Calls.{Ending, status, spent, ending_of, execlineb_call}
use Rattle.el_app.specs.Budgets.{out_behind, runs_out, with_more}
use Rattle.el_app.proofs.Held.{goes-asked}

module _ {E A : Type 0} where
  all_left : (events : List Event) (outcome : Outcome E A) (few many : ℕ) (left : List Found) → few ≤ many
      → (record { events = events; outcome = outcome; units = many; left = left }) ≡ with_more (many - few) (record { events = events; outcome = outcome; units = few; left = left })
  all_left events outcome few many left le =
      let same : many ≡ few + (many - few) = omega arith in
      let make : ℕ → Made E A = λ units. record { events = events; outcome = outcome; units = units; left = left } in
      ap make same

  pub more-same : (plan : Plan E A) (few many : ℕ) (found : List Found) → few ≤ many → runs_out plan few found ≡ false → made plan many found ≡ with_more (many - few) (made plan few found)
  more-same (gives a) few many found le stays = all_left [] (given a) few many found le
  more-same (ends end) few many found le stays = all_left [] (ended end) few many found le
  more-same (takes end plan) Prim.Native.Nat.zero many found le stays = absurd (true≢false stays)
  more-same (takes end plan) (suc few) Prim.Native.Nat.zero found le stays = let no : ⊥ = omega arith in absurd no
  more-same (takes end plan) (suc few) (suc many) found le stays =
      let less : few ≤ many = omega arith in
      let same : many - few ≡ suc many - suc few = omega arith in
      more-same plan few many found less stays ∙ ap (λ more. with_more more (made plan few found)) same
  more-same (calls call after) few many found le stays = by (λ answer left. more-same (after answer) few many left le) (taken call found) stays
    where
      by : ((answer : AnswerOf call) (left : List Found) → runs_out (after answer) few left ≡ false → made (after answer) many left ≡ with_more (many - few) (made (after answer) few left))
          → (next : Option (AnswerOf call × List Found)) → out_behind call (λ a left. runs_out (after a) few left) next ≡ false
          → answered call (λ a left. made (after a) many left) many found next ≡ with_more (many - few) (answered call (λ a left. made (after a) few left) few found next)
      by rest None out = all_left [] starved few many found le
      by rest (Some next) out = ap (after_event (event_of call next.0)) (rest next.0 next.1 out)

  pub more-begins : (plan : Plan E A) (few many : ℕ) (found : List Found) → few ≤ many → (rest : List Event) × ((made plan many found).events ≡ (made plan few found).events ++ rest)
  more-begins (gives a) few many found le = ([], refl)
  more-begins (ends end) few many found le = ([], refl)
  more-begins (takes end plan) Prim.Native.Nat.zero many found le = ((made (takes end plan) many found).events, refl)
  more-begins (takes end plan) (suc few) Prim.Native.Nat.zero found le = let no : ⊥ = omega arith in absurd no
  more-begins (takes end plan) (suc few) (suc many) found le = let less : few ≤ many = omega arith in more-begins plan few many found less
  more-begins (calls call after) few many found le = by (λ answer left. more-begins (after answer) few many left le) (taken call found)
    where
      by : ((answer : AnswerOf call) (left : List Found) → (rest : List Event) × ((made (after answer) many left).events ≡ (made (after answer) few left).events ++ rest))
          → (next : Option (AnswerOf call × List Found))
          → (rest : List Event) × ((answered call (λ a left. made (after a) many left) many found next).events ≡ (answered call (λ a left. made (after a) few left) few found next).events ++ rest)
      by rest None = ([], refl)
      by rest (Some next) = let behind = rest next.0 next.1 in (behind.0, ap (λ (events : List Event). event_of call next.0 ∷ events) behind.1)

  -- where a unit was wanting none is left
  out-none : (plan : Plan E A) (units : ℕ) (found : List Found) → runs_out plan units found ≡ true → (made plan units found).units ≡ 0
  out-none (gives a) units found out = absurd (true≢false (sym out))
  out-none (ends end) units found out = absurd (true≢false (sym out))
  out-none (takes end plan) Prim.Native.Nat.zero found out = refl
  out-none (takes end plan) (suc units) found out = out-none plan units found out
  out-none (calls call after) units found out = by (λ answer left. out-none (after answer) units left) (taken call found) out
    where
      by : ((answer : AnswerOf call) (left : List Found) → runs_out (after answer) units left ≡ true → (made (after answer) units left).units ≡ 0)
          → (next : Option (AnswerOf call × List Found)) → out_behind call (λ a left. runs_out (after a) units left) next ≡ true → (answered call (λ a left. made (after a) units left) units found next).units ≡ 0
      by rest None out = absurd (true≢false (sym out))
      by rest (Some next) out = rest next.0 next.1 out

  pub left-enough : (plan : Plan E A) (units : ℕ) (found : List Found) → (made plan units found).units ≢ 0 → runs_out plan units found ≡ false
  left-enough plan units found left = by (runs_out plan units found) refl
    where
      by : (out : Bool) → runs_out plan units found ≡ out → out ≡ false
      by true out = absurd (left (out-none plan units found out))
      by false out = refl

-- ---- execlineb

module _ {A : Type 0} (P : A → Now → Type 0) (N : End → Now → Type 0) where
  -- where a unit is wanting a task ends spent
  spent-out : (task : Task A) (now : Now) (units : ℕ) (found : List Found) → Holds (knowing ⊥) now task P N → runs_out task units found ≡ true → (state : State) × ((made task units found).outcome ≡ ended (end.Spent state))
  spent-out (gives a) now units found h out = absurd (true≢false (sym out))
  spent-out (ends end) now units found h out = absurd (true≢false (sym out))
  spent-out (takes (end.Status code state) task) now Prim.Native.Nat.zero found h out = absurd h.0
  spent-out (takes (end.Spent state) task) now Prim.Native.Nat.zero found h out = (state, refl)
  spent-out (takes end task) now (suc units) found h out = spent-out task now units found h.2 out
  spent-out (calls call after) now units found h out =
      by (λ answer left. spent-out (after answer) (behind now (event_of call answer)) units left (h.1 answer (λ never. absurd never))) (taken call found) out
    where
      by : ((answer : AnswerOf call) (left : List Found) → runs_out (after answer) units left ≡ true → (state : State) × ((made (after answer) units left).outcome ≡ ended (end.Spent state)))
          → (next : Option (AnswerOf call × List Found)) → out_behind call (λ a left. runs_out (after a) units left) next ≡ true
          → (state : State) × ((answered call (λ a left. made (after a) units left) units found next).outcome ≡ ended (end.Spent state))
      by rest None out = absurd (true≢false (sym out))
      by rest (Some next) out = rest next.0 next.1 out

-- other ends change nothing of that
ends_as-out : {E F A : Type 0} (of : E → F) (plan : Plan E A) (units : ℕ) (found : List Found) → runs_out (ends_as of plan) units found ≡ runs_out plan units found
unfolding ends_as
ends_as-out of (gives a) units found = refl
ends_as-out of (ends end) units found = refl
ends_as-out of (takes end plan) Prim.Native.Nat.zero found = refl
ends_as-out of (takes end plan) (suc units) found = ends_as-out of plan units found
ends_as-out of (calls call after) units found = by (λ answer left. ends_as-out of (after answer) units left) (taken call found)
  where
    by : ((answer : AnswerOf call) (left : List Found) → runs_out (ends_as of (after answer)) units left ≡ runs_out (after answer) units left)
        → (next : Option (AnswerOf call × List Found)) → out_behind call (λ a left. runs_out (ends_as of (after a)) units left) next ≡ out_behind call (λ a left. runs_out (after a) units left) next
    by rest None = refl
    by rest (Some next) = rest next.0 next.1

module _ (words : List (List ℕ)) (env : Vars) (dir : List ℕ) (code few many : ℕ) (found : List Found) where
  execlineb-holds : Goes (knowing ⊥) (λ _. Unit {0}) [] (at_first []) (λ never now. Unit {0}) (execlineb_run words (first_state env dir))
  unfolding execlineb_run
  execlineb-holds = goes-asked (asked execlineb_options words) (first_state env dir) (record { exact = λ never. absurd never })

  not-out : (out : Bool) → runs_out (execlineb_run words (first_state env dir)) few found ≡ out → (made (execlineb_call words env dir) few found).outcome ≡ ended (status code) → out ≡ false
  not-out false out is = refl
  not-out true out is =
      let run = execlineb_run words (first_state env dir) in
      let at = spent-out _ _ run (at_first []) few found execlineb-holds.so out in
      let same : ended spent ≡ ended (status code) = sym (ap (outcome_as ending_of) at.1) ∙ sym (ap (λ (m : Made Ending ⊥). m.outcome) (made-ends_as ending_of run few found)) ∙ is in
      let no : ⊥ = cc in absurd no

  pub status-stays : few ≤ many → (made (execlineb_call words env dir) few found).outcome ≡ ended (status code)
      → made (execlineb_call words env dir) many found ≡ with_more (many - few) (made (execlineb_call words env dir) few found)
  status-stays le is =
      let run = execlineb_run words (first_state env dir) in
      more-same (execlineb_call words env dir) few many found le (ends_as-out ending_of run few found ∙ not-out (runs_out run few found) refl is)

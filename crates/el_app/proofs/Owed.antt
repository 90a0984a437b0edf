-- How often a process was started and not yet waited for, and tasks that wait only for such a one. It says of a task from there that whatever is
-- answered each wait is for a process that is owed, and what is owed behind each result.
use Rattle.el_room.proofs.Vocabulary.{Event, Start, Wait, Pid, Call, AnswerOf, event_of, start, wait, open_file, pipe, feed, read, write, close, enter, Act, and_do, Plan, gives, ends, takes, calls, and_then, and_go_on, ends_as, Outcome, Does, End, Task}
use Rattle.std.proofs.Common.{◌≡◌, ℕ, suc, ◌-◌, ◌<◌, Bool, true, false, ◌==◌, if◌then◌else◌, List, [], ◌∷◌, Ok, refl, sym, subst, arith}
use Rattle.el_world.specs.Acts as act
use Rattle.el_world.specs.Plans.{Begins}

-- ---- what is owed

-- of each number, how often a process of it was started and not waited for
abbrev pub Owed : Type 0
Owed = ℕ → ℕ

-- one more of this number
abbrev pub more : Owed → Pid → Owed
more owed pid = λ number. if pid.number == number then suc (owed number) else owed number

-- one less of it
abbrev pub less : Owed → Pid → Owed
less owed pid = λ number. if pid.number == number then owed number - 1 else owed number

-- what is owed behind a call
abbrev pub owed_after : Owed → Event → Owed
owed_after owed (Start words env dir streams (Ok pid)) = more owed pid
owed_after owed (Wait pid answer) = less owed pid
owed_after owed event = owed

-- a wait is for a process that is owed
abbrev pub MayCall : Owed → Call → Type 0
MayCall owed (wait pid) = 0 < owed pid.number
MayCall owed call = Unit {0}

module _ {A : Type 0} where
  abbrev pub ActWaits : Owed → Act A → (A → Owed → Type 0) → Type 0
  ActWaits owed (act.gives a) at_gift = at_gift a owed
  ActWaits owed (act.calls call after) at_gift = MayCall owed call × ((answer : AnswerOf call) → ActWaits (owed_after owed (event_of call answer)) (after answer) at_gift)

module _ {E A : Type 0} where
  abbrev pub PlanWaits : Owed → Plan E A → (A → Owed → Type 0) → Type 0
  PlanWaits owed (gives a) at_gift = at_gift a owed
  PlanWaits owed (ends end) at_gift = Unit {0}
  PlanWaits owed (takes end plan) at_gift = PlanWaits owed plan at_gift
  PlanWaits owed (calls call after) at_gift = MayCall owed call × ((answer : AnswerOf call) → PlanWaits (owed_after owed (event_of call answer)) (after answer) at_gift)

-- ---- in one another

module _ {A B : Type 0} (P : A → Owed → Type 0) (Q : B → Owed → Type 0) (next : A → Act B) where
  waits-do : (first : Act A) (owed : Owed) → ((a : A) (later : Owed) → P a later → ActWaits later (next a) Q) → ActWaits owed first P → ActWaits owed (and_do first next) Q
  unfolding and_do
  waits-do (act.gives a) owed f h = f a owed h
  waits-do (act.calls call after) owed f h = (h.0, λ answer. waits-do (after answer) (owed_after owed (event_of call answer)) f (h.1 answer))

module _ {E A B : Type 0} (P : A → Owed → Type 0) (Q : B → Owed → Type 0) (next : A → Plan E B) where
  waits-go_on : (first : Act A) (owed : Owed) → ((a : A) (later : Owed) → P a later → PlanWaits later (next a) Q) → ActWaits owed first P → PlanWaits owed (and_go_on first next) Q
  unfolding and_go_on
  waits-go_on (act.gives a) owed f h = f a owed h
  waits-go_on (act.calls call after) owed f h = (h.0, λ answer. waits-go_on (after answer) (owed_after owed (event_of call answer)) f (h.1 answer))

  waits-then : (first : Plan E A) (owed : Owed) → ((a : A) (later : Owed) → P a later → PlanWaits later (next a) Q) → PlanWaits owed first P → PlanWaits owed (and_then first next) Q
  unfolding and_then
  waits-then (gives a) owed f h = f a owed h
  waits-then (ends end) owed f h = tt
  waits-then (takes end plan) owed f h = waits-then plan owed f h
  waits-then (calls call after) owed f h = (h.0, λ answer. waits-then (after answer) (owed_after owed (event_of call answer)) f (h.1 answer))

module _ {E F A : Type 0} (of : E → F) (P : A → Owed → Type 0) where
  pub waits-ends_as : (plan : Plan E A) (owed : Owed) → PlanWaits owed plan P → PlanWaits owed (ends_as of plan) P
  unfolding ends_as
  waits-ends_as (gives a) owed h = h
  waits-ends_as (ends end) owed h = tt
  waits-ends_as (takes end plan) owed h = waits-ends_as plan owed h
  waits-ends_as (calls call after) owed h = (h.0, λ answer. waits-ends_as (after answer) (owed_after owed (event_of call answer)) (h.1 answer))

-- ---- events

-- each wait is for a process that is owed then
abbrev pub AreOwed : Owed → List Event → Type 0
AreOwed owed [] = Unit {0}
AreOwed owed (Wait pid answer ∷ events) = (0 < owed pid.number) × AreOwed (less owed pid) events
AreOwed owed (event ∷ events) = AreOwed (owed_after owed event) events

one-owed : (owed : Owed) (call : Call) (answer : AnswerOf call) (events : List Event) → MayCall owed call → AreOwed (owed_after owed (event_of call answer)) events → AreOwed owed (event_of call answer ∷ events)
one-owed owed (start words env dir streams) answer events may rest = rest
one-owed owed (wait pid) answer events may rest = (may, rest)
one-owed owed (open_file dir path mode) answer events may rest = rest
one-owed owed pipe answer events may rest = rest
one-owed owed (feed bytes) answer events may rest = rest
one-owed owed (read handle) answer events may rest = rest
one-owed owed (write handle bytes) answer events may rest = rest
one-owed owed (close handle) answer events may rest = rest
one-owed owed (enter dir path) answer events may rest = rest

module _ {E A : Type 0} (P : A → Owed → Type 0) where
  -- the events of such a plan, and those that it begins with
  pub does-owed : (plan : Plan E A) (owed : Owed) (u : ℕ) (events : List Event) (out : Outcome E A) (v : ℕ) → PlanWaits owed plan P → Does plan u events out v → AreOwed owed events
  does-owed (gives a) owed u [] out v h p = tt
  does-owed (gives a) owed u (event ∷ events) out v h p = absurd p
  does-owed (ends end) owed u [] out v h p = tt
  does-owed (ends end) owed u (event ∷ events) out v h p = absurd p
  does-owed (takes end plan) owed Prim.Native.Nat.zero [] out v h p = tt
  does-owed (takes end plan) owed Prim.Native.Nat.zero (event ∷ events) out v h p = absurd p
  does-owed (takes end plan) owed (suc u) events out v h p = does-owed plan owed u events out v h p
  does-owed (calls call after) owed u [] out v h p = absurd p
  does-owed (calls call after) owed u (event ∷ events) out v h p =
      subst (λ event. AreOwed owed (event ∷ events)) (sym p.1) (one-owed owed call p.0 events h.0 (does-owed (after p.0) (owed_after owed (event_of call p.0)) u events out v (h.1 p.0) p.2))

  pub begins-owed : (plan : Plan E A) (owed : Owed) (u : ℕ) (events : List Event) → PlanWaits owed plan P → Begins plan u events → AreOwed owed events
  begins-owed plan owed u [] h p = tt
  begins-owed (gives a) owed u (event ∷ events) h p = absurd p
  begins-owed (ends end) owed u (event ∷ events) h p = absurd p
  begins-owed (takes end plan) owed Prim.Native.Nat.zero (event ∷ events) h p = absurd p
  begins-owed (takes end plan) owed (suc u) (event ∷ events) h p = begins-owed plan owed u (event ∷ events) h p
  begins-owed (calls call after) owed u (event ∷ events) h p =
      subst (λ event. AreOwed owed (event ∷ events)) (sym p.1) (one-owed owed call p.0 events h.0 (begins-owed (after p.0) (owed_after owed (event_of call p.0)) u events (h.1 p.0) p.2))

-- ---- acts and tasks of which it holds

pub record WaitsAct {A : Type 0} (owed : Owed) (P : A → Owed → Type 0) (done : Act A) : Type 0 where
  pub so : ActWaits owed done P

pub record Waits {A : Type 0} (owed : Owed) (P : A → Owed → Type 0) (task : Task A) : Type 0 where
  pub so : PlanWaits owed task P

-- nothing was started or waited for
abbrev pub Still : {A : Type 0} → Owed → A → Owed → Type 0
Still owed a later = later ≡ owed

module _ {A : Type 0} {P : A → Owed → Type 0} {owed : Owed} where
  pub act-gives : {a : A} → P a owed → WaitsAct owed P (act.gives a)
  act-gives h = record { so = h }

  pub act-do : {X : Type 0} {Q : X → Owed → Type 0} {first : Act X} {next : X → Act A} → WaitsAct owed Q first → ((x : X) (later : Owed) → Q x later → WaitsAct later P (next x)) → WaitsAct owed P (and_do first next)
  act-do {Q = Q} {first} {next} one two = record { so = waits-do Q P next first owed (λ x later q. (two x later q).so) one.so }

  -- behind an act that starts nothing and waits for nothing
  pub act-still : {X : Type 0} {first : Act X} {next : X → Act A} → WaitsAct owed (Still owed) first → ((x : X) → WaitsAct owed P (next x)) → WaitsAct owed P (and_do first next)
  act-still {next = next} one two = act-do one (λ x later is. subst (λ later. WaitsAct later P (next x)) (sym is) (two x))

  pub waits-gives : {a : A} → P a owed → Waits owed P (gives a)
  waits-gives h = record { so = h }

  pub waits-ends : {end : End} → Waits owed P (ends end)
  waits-ends = record { so = tt }

  pub waits-takes : {end : End} {task : Task A} → Waits owed P task → Waits owed P (takes end task)
  waits-takes one = record { so = one.so }

  pub waits-act : {X : Type 0} {Q : X → Owed → Type 0} {first : Act X} {next : X → Task A} → WaitsAct owed Q first → ((x : X) (later : Owed) → Q x later → Waits later P (next x)) → Waits owed P (and_go_on first next)
  waits-act {Q = Q} {first} {next} one two = record { so = waits-go_on Q P next first owed (λ x later q. (two x later q).so) one.so }

  pub waits-both : {X : Type 0} {Q : X → Owed → Type 0} {first : Task X} {next : X → Task A} → Waits owed Q first → ((x : X) (later : Owed) → Q x later → Waits later P (next x)) → Waits owed P (and_then first next)
  waits-both {Q = Q} {first} {next} one two = record { so = waits-then Q P next first owed (λ x later q. (two x later q).so) one.so }

  -- behind an act, or a task, that starts nothing and waits for nothing
  pub waits-behind : {X : Type 0} {first : Act X} {next : X → Task A} → WaitsAct owed (Still owed) first → ((x : X) → Waits owed P (next x)) → Waits owed P (and_go_on first next)
  waits-behind {next = next} one two = waits-act one (λ x later is. subst (λ later. Waits later P (next x)) (sym is) (two x))

  pub waits-after : {X : Type 0} {first : Task X} {next : X → Task A} → Waits owed (Still owed) first → ((x : X) → Waits owed P (next x)) → Waits owed P (and_then first next)
  waits-after {next = next} one two = waits-both one (λ x later is. subst (λ later. Waits later P (next x)) (sym is) (two x))

  pub waits-if : {one other : Task A} (test : Bool) → Waits owed P one → Waits owed P other → Waits owed P (if test then one else other)
  waits-if true one other = one
  waits-if false one other = other

-- ---- one process

pub same-number : (n : ℕ) → (n == n) ≡ true
same-number n = grind (arith)

one-less : (owed : Owed) (pid : Pid) (number : ℕ) → less (more owed pid) pid number ≡ owed number
one-less owed pid number = by (pid.number == number)
  where
    by : (b : Bool) → (if b then (if b then suc (owed number) else owed number) - 1 else (if b then suc (owed number) else owed number)) ≡ owed number
    by true = omega arith
    by false = refl

-- once it was started and waited for, nothing else is owed
pub back : (owed : Owed) (pid : Pid) → less (more owed pid) pid ≡ owed
back owed pid = λ i. λ number. one-less owed pid number i

-- what was started is owed
pub is-owed : (owed : Owed) (pid : Pid) → 0 < more owed pid pid.number
is-owed owed pid = by (pid.number == pid.number) (same-number pid.number)
  where
    by : (b : Bool) → b ≡ true → 0 < (if b then suc (owed pid.number) else owed pid.number)
    by true is = omega arith
    by false is = absurd (cc)

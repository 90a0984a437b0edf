-- One weakest precondition over tasks. `Now` is what is held, whether all has gone well, and what was called; `Holds` says of a task from there that
-- each result and each end that it comes to, whatever is answered, is as said. What is held behind a program, why it ends with 111, and
-- what it may change are all said so.
use Rattle.el_room.proofs.Vocabulary.{append_assoc, append-nil, Event, Handle, held_after, is_lawful, MayAnswer, Call, AnswerOf, start, event_of, is_fault, Act, and_do, gives, ends, takes, calls, and_then, and_go_on, State, End, Status, Task}
use Rattle.std.proofs.Common.{◌≡◌, ℕ, Bool, true, not, ◌&&◌, List, [], ◌∷◌, ◌++◌, Option, sym, ◌∙◌}
use Rattle.el_world.specs.Acts as act
use Rattle.el_world.specs.States.{Spent}
use Rattle.el_machine.specs.Exact.{HoldsExactly}

-- what is held, that each call so far was answered as a world may, and none failed, and the calls
pub record Now : Type 0 where
  pub held : List Handle
  pub ok : Bool
  pub told : List Event

-- the call was answered as a world may, and hasn't failed
abbrev pub has_gone : Event → Bool
has_gone event = is_lawful event && not (is_fault event)

-- the same behind an event
abbrev pub behind : Now → Event → Now
behind now event = record { held = held_after now.held event; ok = has_gone event && now.ok; told = now.told ++ event ∷ [] }

-- On what terms it is said: what is known, and which words a process may be started with. Where it isn't known which handles are held,
-- a call may be answered in any way.
pub record Terms : Type 1 where
  pub known : Type 0
  pub may_start : (words : List (List ℕ)) → Type 0

-- any words may be
abbrev pub knowing : Type 0 → Terms
knowing known = record { known = known; may_start = λ words. Unit {0} }

-- the call may be made
abbrev pub MayCall : Terms → Call → Type 0
MayCall terms (start words env dir streams) = terms.may_start words
MayCall terms _ = Unit {0}

module _ (terms : Terms) {A : Type 0} where
  -- from here the act gives only what is as said, and makes only calls that it may
  abbrev pub HoldsAct : Now → Act A → (A → Now → Type 0) → Type 0
  HoldsAct now (act.gives a) at_gift = at_gift a now
  HoldsAct now (act.calls call after) at_gift =
      MayCall terms call × ((answer : AnswerOf call) → (terms.known → MayAnswer now.held call answer) → HoldsAct (behind now (event_of call answer)) (after answer) at_gift)

-- an end for want of a unit
abbrev pub IsSpent : End → Type 0
IsSpent (Status code state) = ⊥
IsSpent (Spent state) = Unit {0}

module _ (terms : Terms) {A : Type 0} where
  -- from here the task gives only what is as said, makes only calls that it may, and ends only as is said, where a unit is wanting spent
  abbrev pub Holds : Now → Task A → (A → Now → Type 0) → (End → Now → Type 0) → Type 0
  Holds now (gives a) at_gift at_end = at_gift a now
  Holds now (ends end) at_gift at_end = at_end end now
  Holds now (takes end task) at_gift at_end = IsSpent end × at_end end now × Holds now task at_gift at_end
  Holds now (calls call after) at_gift at_end =
      MayCall terms call × ((answer : AnswerOf call) → (terms.known → MayAnswer now.held call answer) → Holds (behind now (event_of call answer)) (after answer) at_gift at_end)

-- ---- in one another

-- more was called since
pub record Grew (before now : Now) : Type 0 where
  pub more : List Event
  pub told : now.told ≡ before.told ++ more

grew_none : (now : Now) → Grew now now
grew_none now = record { more = []; told = sym (append-nil now.told) }

grew_one : (now after : Now) (event : Event) → Grew (behind now event) after → Grew now after
grew_one now after event h = record { more = event ∷ h.more; told = h.told ∙ append_assoc now.told (event ∷ []) h.more }

module _ (terms : Terms) {A B : Type 0} (P : A → Now → Type 0) (Q : B → Now → Type 0) (next : A → Act B) where
  holds-do : (first : Act A) (now : Now) → ((a : A) (now : Now) → P a now → HoldsAct terms now (next a) Q) → HoldsAct terms now first P → HoldsAct terms now (and_do first next) Q
  unfolding and_do
  holds-do (act.gives a) now f h = f a now h
  holds-do (act.calls call after) now f h = (h.0, λ answer may. holds-do (after answer) (behind now (event_of call answer)) f (h.1 answer may))

module _ (terms : Terms) {A B : Type 0} (P : A → Now → Type 0) (Q : B → Now → Type 0) (N : End → Now → Type 0) (next : A → Task B) where
  holds-go_on : (first : Act A) (now : Now) → ((a : A) (after : Now) → Grew now after → P a after → Holds terms after (next a) Q N) → HoldsAct terms now first P → Holds terms now (and_go_on first next) Q N
  unfolding and_go_on
  holds-go_on (act.gives a) now f h = f a now (grew_none now) h
  holds-go_on (act.calls call after) now f h = (h.0, λ answer may. let event = event_of call answer in holds-go_on (after answer) (behind now event) (λ a later grew. f a later (grew_one now later event grew)) (h.1 answer may))

  holds-then : (task : Task A) (now : Now) → ((a : A) (after : Now) → Grew now after → P a after → Holds terms after (next a) Q N) → Holds terms now task P N → Holds terms now (and_then task next) Q N
  unfolding and_then
  holds-then (gives a) now f h = f a now (grew_none now) h
  holds-then (ends end) now f h = h
  holds-then (takes end task) now f h = (h.0, h.1, holds-then task now f h.2)
  holds-then (calls call after) now f h = (h.0, λ answer may. let event = event_of call answer in holds-then (after answer) (behind now event) (λ a later grew. f a later (grew_one now later event grew)) (h.1 answer may))

-- ---- what is said

-- exactly what is due is held
pub record Kept (terms : Terms) (base : List Handle) (fds : List (Option Handle)) (now : Now) : Type 0 where
  pub exact : terms.known → HoldsExactly base now.held fds

-- an end with 111 has this cause
abbrev pub EndsFor : (cause : Type 0) → End → Type 0
EndsFor cause (Status code state) = code ≡ 111 → cause
EndsFor cause (Spent state) = Unit {0}

-- exactly what is due is held at an end with a status; a spent budget may cut anything off
abbrev pub ends_exactly : List Handle → End → List Handle → Type 0
ends_exactly base (Status code state) held = HoldsExactly base held state.fds
ends_exactly base (Spent state) held = Unit {0}

-- so it is at an end, which is with 111 for this cause alone while no call fails
pub record Ending (terms : Terms) (cause : Now → Type 0) (base : List Handle) (end : End) (now : Now) : Type 0 where
  pub exact : terms.known → ends_exactly base end now.held
  pub why : now.ok ≡ true → EndsFor (cause now) end

-- an act of which this holds
pub record Does {A : Type 0} (terms : Terms) (now : Now) (P : A → Now → Type 0) (done : Act A) : Type 0 where
  pub so : HoldsAct terms now done P

-- a task that goes on so, or ends the process as is due
pub record Goes {A : Type 0} (terms : Terms) (cause : Now → Type 0) (base : List Handle) (now : Now) (P : A → Now → Type 0) (task : Task A) : Type 0 where
  pub so : Holds terms now task P (Ending terms cause base)

module _ {terms : Terms} {A : Type 0} {P : A → Now → Type 0} {now : Now} where
  pub does-gives : {a : A} → P a now → Does terms now P (act.gives a)
  does-gives h = record { so = h }

  pub does-do : {X : Type 0} {Q : X → Now → Type 0} {first : Act X} {next : X → Act A} → Does terms now Q first → ((x : X) (now : Now) → Q x now → Does terms now P (next x)) → Does terms now P (and_do first next)
  does-do {Q = Q} {first} {next} one two = record { so = holds-do terms Q P next first now (λ x now q. (two x now q).so) one.so }

module _ {terms : Terms} {A : Type 0} {cause : Now → Type 0} {base : List Handle} {P : A → Now → Type 0} {now : Now} where
  pub goes-gives : {a : A} → P a now → Goes terms cause base now P (gives a)
  goes-gives h = record { so = h }

  pub goes-ends : {code : ℕ} {state : State} → Kept terms base state.fds now → (now.ok ≡ true → code ≡ 111 → cause now) → Goes terms cause base now P (ends (Status code state))
  goes-ends h why = record { so = record { exact = h.exact; why = why } }

  pub goes-spent : {state : State} → Goes terms cause base now P (ends (Spent state))
  goes-spent = record { so = record { exact = λ _. tt; why = λ _. tt } }

  pub goes-takes : {state : State} {task : Task A} → Goes terms cause base now P task → Goes terms cause base now P (takes (Spent state) task)
  goes-takes one = record { so = (tt, record { exact = λ _. tt; why = λ _. tt }, one.so) }

  -- it may be said what was called since
  pub goes-act_since : {X : Type 0} {Q : X → Now → Type 0} {first : Act X} {next : X → Task A} → Does terms now Q first → ((x : X) (after : Now) → Grew now after → Q x after → Goes terms cause base after P (next x))
      → Goes terms cause base now P (and_go_on first next)
  goes-act_since {Q = Q} {first} {next} one two = record { so = holds-go_on terms Q P _ next first now (λ x after grew q. (two x after grew q).so) one.so }

  pub goes-act : {X : Type 0} {Q : X → Now → Type 0} {first : Act X} {next : X → Task A} → Does terms now Q first → ((x : X) (now : Now) → Q x now → Goes terms cause base now P (next x)) → Goes terms cause base now P (and_go_on first next)
  goes-act one two = goes-act_since one (λ x after grew q. two x after q)

  pub goes-then_since : {X : Type 0} {Q : X → Now → Type 0} {first : Task X} {next : X → Task A} → Goes terms cause base now Q first → ((x : X) (after : Now) → Grew now after → Q x after → Goes terms cause base after P (next x))
      → Goes terms cause base now P (and_then first next)
  goes-then_since {Q = Q} {first} {next} one two = record { so = holds-then terms Q P _ next first now (λ x after grew q. (two x after grew q).so) one.so }

  pub goes-then : {X : Type 0} {Q : X → Now → Type 0} {first : Task X} {next : X → Task A} → Goes terms cause base now Q first → ((x : X) (now : Now) → Q x now → Goes terms cause base now P (next x)) → Goes terms cause base now P (and_then first next)
  goes-then one two = goes-then_since one (λ x after grew q. two x after q)

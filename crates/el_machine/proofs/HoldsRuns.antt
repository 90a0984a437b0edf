-- What the run of a task comes to, from which all is as said.
use Rattle.el_room.proofs.Vocabulary.{and_from, append_assoc, append-nil, right_of, Event, Handle, Seen, Rising, are_fresh, given_by, given_in, held_after, held_after_all, is_lawful, are_lawful, MayAnswer, Call, AnswerOf, event_of, is_fault, has_fault, gives, ends, takes, calls, Outcome, given, ended, starved, Does, Added, Ran, End, Task, AllGiven}
use Rattle.std.proofs.Common.{◌≡◌, ℕ, suc, ◌+◌, Bool, true, false, not, List, [], ◌∷◌, ◌++◌, Some, refl, sym, ap, ◌∙◌, subst, arith, le_refl}
use Rattle.std.proofs.lemmas.Bool.{or_parts}
use Rattle.el_words.proofs.Truths.{left_of}
use Rattle.el_world.specs.Handles.{all_fresh}
use Rattle.el_world.proofs.Held.{rising_from}
use Rattle.el_machine.specs.Causes.{NoneFailed}
use Rattle.el_machine.proofs.Holds.{Terms, knowing, has_gone, behind, Holds, Now}

-- where a run begins
abbrev pub at_first : List Handle → Now
at_first held = record { held = held; ok = true; told = [] }

-- behind events
abbrev pub behind_all : Now → List Event → Now
behind_all now [] = now
behind_all now (event ∷ events) = behind_all (behind now event) events

-- ---- events that a world tells

-- while these are held they may be answers
abbrev MayTell : List Handle → List Event → Type 0
MayTell held [] = Unit {0}
MayTell held (event ∷ events) = ((call : Call) (answer : AnswerOf call) → event ≡ event_of call answer → MayAnswer held call answer) × MayTell (held_after held event) events

-- numbers that rise do so up to a place, and on from there
rising-parts : (one two : List Handle) (from to : ℕ) → Rising from (one ++ two) to → (mid : ℕ) × Rising from one mid × Rising mid two to
rising-parts [] two from to h = (from, le_refl from, h)
rising-parts (handle ∷ one) two from to h =
    let rest = rising-parts one two (handle.number + 1) to h.2 in
    (rest.0, (h.0, h.1, rest.1), rest.2)

may_tell : (held : List Handle) (events : List Event) (from to : ℕ) → are_lawful events ≡ true → Rising from (given_in events) to → all_fresh held events ≡ true → MayTell held events
may_tell held [] from to lawful rising fresh = tt
may_tell held (event ∷ events) from to lawful rising fresh =
    let parts = rising-parts (given_by event) (given_in events) from to rising in (
      λ call answer is. record {
        lawful = subst (λ e. is_lawful e ≡ true) is (left_of (is_lawful event) (are_lawful events) lawful);
        next = parts.0;
        rising = subst (λ e. Rising 0 (given_by e) parts.0) is (rising_from (given_by event) 0 from parts.0 (omega arith) parts.1);
        fresh = subst (λ e. are_fresh held (given_by e) ≡ true) is (left_of (are_fresh held (given_by event)) (all_fresh (held_after held event) events) fresh);
      },
      may_tell (held_after held event) events parts.0 to (right_of (is_lawful event) (are_lawful events) lawful) parts.2 (right_of (are_fresh held (given_by event)) (all_fresh (held_after held event) events) fresh),
    )

-- what is held behind them
held_behind : (events : List Event) (now : Now) → (behind_all now events).held ≡ held_after_all now.held events
held_behind [] now = refl
held_behind (event ∷ events) now = held_behind events (behind now event)

-- and what was called
told_behind : (events : List Event) (now : Now) → (behind_all now events).told ≡ now.told ++ events
told_behind [] now = sym (append-nil now.told)
told_behind (event ∷ events) now = told_behind events (behind now event) ∙ append_assoc now.told (event ∷ []) events

pub told_first : (held : List Handle) (events : List Event) → (behind_all (at_first held) events).told ≡ events
told_first held events = told_behind events (at_first held)

-- each was answered as a world may, and none failed
abbrev pub AllSucceed : List Event → Type 0
AllSucceed [] = Unit {0}
AllSucceed (event ∷ events) = (has_gone event ≡ true) × AllSucceed events

pub all-succeed : (events : List Event) → are_lawful events ≡ true → has_fault events ≡ false → AllSucceed events
all-succeed [] lawful sound = tt
all-succeed (event ∷ events) lawful sound =
    let neither = or_parts (is_fault event) (has_fault events) sound in
    (and_from _ _ (left_of (is_lawful event) (are_lawful events) lawful) (ap not neither.0), all-succeed events (right_of (is_lawful event) (are_lawful events) lawful) neither.1)

pub later-succeed : (one two : List Event) → AllSucceed (one ++ two) → AllSucceed two
later-succeed [] two all = all
later-succeed (event ∷ one) two all = later-succeed one two all.1

-- where no fault was counted none is among the calls
pub none-failed : {old new : Seen} (events : List Event) → Added old new events → NoneFailed old new → has_fault events ≡ false
none-failed events added none = by (has_fault events) refl
  where
    by : (some : Bool) → has_fault events ≡ some → has_fault events ≡ false
    by true is = absurd (none (added.risen is))
    by false is = is

went-well : (events : List Event) (now : Now) → AllSucceed events → now.ok ≡ true → (behind_all now events).ok ≡ true
went-well [] now all ok = ok
went-well (event ∷ events) now all ok = went-well events (behind now event) all.1 (and_from _ _ all.0 ok)

-- ---- how a task comes out

module _ {A : Type 0} (P : A → Now → Type 0) (N : End → Now → Type 0) where
  -- what is said of it
  abbrev pub HoldsOut : Outcome End A → Now → Type 0
  HoldsOut (given a) now = P a now
  HoldsOut (ended end) now = N end now
  HoldsOut starved now = Unit {0}

  holds-does : (terms : Terms) (task : Task A) (now : Now) (u : ℕ) (events : List Event) (out : Outcome End A) (v : ℕ) → (terms.known → MayTell now.held events) → Holds terms now task P N → Does task u events out v → HoldsOut out (behind_all now events)
  holds-does terms (gives a) now u [] out v may h does = subst (λ out. HoldsOut out now) (sym does.0) h
  holds-does terms (gives a) now u (event ∷ events) out v may h does = absurd does
  holds-does terms (ends end) now u [] out v may h does = subst (λ out. HoldsOut out now) (sym does.0) h
  holds-does terms (ends end) now u (event ∷ events) out v may h does = absurd does
  holds-does terms (takes end task) now Prim.Native.Nat.zero [] out v may h does = subst (λ out. HoldsOut out now) (sym does.0) h.1
  holds-does terms (takes end task) now Prim.Native.Nat.zero (event ∷ events) out v may h does = absurd does
  holds-does terms (takes end task) now (suc u) events out v may h does = holds-does terms task now u events out v may h.2 does
  holds-does terms (calls call after) now u [] out v may h does = absurd does
  holds-does terms (calls call after) now u (event ∷ events) out v may h does =
      let next = subst (λ e. Holds terms (behind now e) (after does.0) P N) (sym does.1) (h.1 does.0 (λ s. (may s).0 call does.0 does.1)) in
      holds-does terms (after does.0) (behind now event) u events out v (λ s. (may s).1) next does.2

  -- by events alone, whatever is held
  pub holds-events : (task : Task A) (now : Now) (u : ℕ) (events : List Event) (out : Outcome End A) (v : ℕ) → Holds (knowing ⊥) now task P N → Does task u events out v → HoldsOut out (behind_all now events)
  holds-events task now u events out v h does = holds-does (knowing ⊥) task now u events out v (λ never. absurd never) h does

  -- between two states of a world
  pub holds-ran : (terms : Terms) {old new : Seen} {run : Task A} {u v : ℕ} {out : Outcome End A} → Holds terms (at_first old.held) run P N → (p : Ran old new run u (Some out) v) → HoldsOut out (behind_all (at_first old.held) p.events)
  holds-ran terms {old} {new} {run} {u} {v} {out} h p =
      let added = p.added in
      holds-does terms run (at_first old.held) u p.events out v (λ _. may_tell old.held p.events old.next new.next added.lawful added.rising added.fresh) h p.agrees

  -- what a task may give, whatever is answered
  pub holds-given : (Q : A → Type 0) (task : Task A) (now : Now) → ((a : A) (now : Now) → P a now → Q a) → Holds (knowing ⊥) now task P N → AllGiven Q task
  holds-given Q (gives a) now f h = f a now h
  holds-given Q (ends end) now f h = tt
  holds-given Q (takes end task) now f h = holds-given Q task now f h.2
  holds-given Q (calls call after) now f h = λ answer. holds-given Q (after answer) (behind now (event_of call answer)) f (h.1 answer (λ never. absurd never))

-- what is held then
pub held-added : {old new : Seen} (events : List Event) → Added old new events → (behind_all (at_first old.held) events).held ≡ new.held
held-added {old} events added = held_behind events (at_first old.held) ∙ sym added.held

-- where none fails
pub went-well-first : (held : List Handle) (events : List Event) → AllSucceed events → (behind_all (at_first held) events).ok ≡ true
went-well-first held events all = went-well events (at_first held) all refl

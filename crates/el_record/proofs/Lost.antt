-- An event that was lost for want of memory.
use Rattle.std.proofs.Common.{◌≡◌, inl, inr, ℕ, suc, true, List, [], ◌∷◌, ◌++◌, Option, None, Some, refl, sym, ap, ◌∙◌, append_assoc, append-nil}
use Rattle.std.specs.List.{list_all}
use Rattle.std.proofs.lemmas.Bool.{and_from}
use Rattle.std.proofs.lemmas.List.Folds.{list_all-append}
use Rattle.el_world.specs.declared.event.Event.{Event}
use Rattle.el_world.specs.World.{Seen}
use Rattle.el_world.specs.Plans.{Plan, gives, ends, takes, calls, Outcome, Does, Begins}
use Rattle.el_world.specs.Runs.{Added, PlanAgrees}
use Rattle.el_world.proofs.Added.{added_after}
use Rattle.el_record.specs.Lost.{may_be_lost, is_close, AreButForLost, AddedButForLost}

-- what was added, where none was lost
pub all_added : {old new : Seen} {events : List Event} → Added old new events → AddedButForLost old new events
all_added {events = events} added = record { given = events; added = added; but_for_lost = inl refl }

-- the last one was lost
pub one_lost : {old new : Seen} (events : List Event) (lost : Event) → may_be_lost lost ≡ true → Added old new (events ++ lost ∷ []) → AddedButForLost old new events
one_lost events lost may added = record {
  given = events ++ lost ∷ [];
  added = added;
  but_for_lost = inr (record { before = events; lost = lost; closes = []; given_are = refl; events_are = sym (append-nil events); may = may; only_closes = refl });
}

-- closes after it
but_for_more : (given events closes : List Event) → list_all is_close closes ≡ true → AreButForLost given events → AreButForLost (given ++ closes) (events ++ closes)
but_for_more given events closes are (inl same) = inl (ap (λ es. es ++ closes) same)
but_for_more given events closes are (inr one) = inr (record {
  before = one.before;
  lost = one.lost;
  closes = one.closes ++ closes;
  given_are = ap (λ es. es ++ closes) one.given_are ∙ append_assoc one.before (one.lost ∷ one.closes) closes;
  events_are = ap (λ es. es ++ closes) one.events_are ∙ append_assoc one.before one.closes closes;
  may = one.may;
  only_closes = list_all-append is_close one.closes closes ∙ and_from (list_all is_close one.closes) (list_all is_close closes) one.only_closes are;
})

pub closed_after : {old mid new : Seen} (events closes : List Event) → list_all is_close closes ≡ true → AddedButForLost old mid events → Added mid new closes → AddedButForLost old new (events ++ closes)
closed_after events closes are first added =
    record { given = first.given ++ closes; added = added_after first.added added; but_for_lost = but_for_more first.given events closes are first.but_for_lost }

-- ---- beginnings

module _ {E A : Type 0} where
  does_begins : (plan : Plan E A) (units : ℕ) (events : List Event) (outcome : Outcome E A) (left : ℕ) → Does plan units events outcome left → Begins plan units events
  does_begins plan units [] outcome left does = tt
  does_begins (gives a) units (event ∷ events) outcome left does = absurd does
  does_begins (ends end) units (event ∷ events) outcome left does = absurd does
  does_begins (takes end plan) Prim.Native.Nat.zero (event ∷ events) outcome left does = absurd does
  does_begins (takes end plan) (suc units) (event ∷ events) outcome left does = does_begins plan units (event ∷ events) outcome left does
  does_begins (calls call after) units (event ∷ events) outcome left does = (does.0, does.1, does_begins (after does.0) units events outcome left does.2)

  -- what a plan did begins it
  pub begun : (plan : Plan E A) (units : ℕ) (events : List Event) (outcome : Option (Outcome E A)) (left : ℕ) → PlanAgrees plan units events outcome left → Begins plan units events
  begun plan units events None left begins = begins
  begun plan units events (Some outcome) left does = does_begins plan units events outcome left does

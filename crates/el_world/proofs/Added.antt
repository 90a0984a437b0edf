-- Events that a world was given, one after the other.
use Rattle.std.proofs.Common.{◌≡◌, ℕ, List, [], ◌∷◌, ◌++◌, Option, None, Some, refl, sym, ap, ◌∙◌, append_assoc, append-nil, true≢false, Bool, true, false, ◌&&◌, ◌||◌, ◌⊎◌, inl, inr, ◌≤◌, subst, arith}
use Rattle.std.proofs.lemmas.Bool.{or_cases}
use Rattle.el_world.specs.declared.event.Event.{Event}
use Rattle.el_world.specs.World.{Seen, extended, Rose}
use Rattle.el_world.specs.Lawful.{is_lawful, are_lawful}
use Rattle.el_world.specs.Handles.{Rising, given_by, given_in, held_after, held_after_all, are_fresh, all_fresh, names_held, all_name_held}
use Rattle.el_world.specs.Calls.{is_fault, has_fault}
use Rattle.el_world.proofs.Held.{held_after_all-append, given_in-append, all_fresh-append, all_name_held-append, Rising-append}
use Rattle.el_world.specs.Runs.{Added}

pub extended-nothing : (log : Option (List Event)) → log ≡ extended log []
unfolding extended
extended-nothing None = refl
extended-nothing (Some events) = ap Some (sym (append-nil events))

extended-extended : (log : Option (List Event)) (a b : List Event) → extended (extended log a) b ≡ extended log (a ++ b)
unfolding extended
extended-extended None a b = refl
extended-extended (Some events) a b = ap Some (append_assoc events a b)

has_fault-append : (a b : List Event) → has_fault (a ++ b) ≡ (has_fault a || has_fault b)
has_fault-append [] b = refl
has_fault-append (e ∷ a) b = either (is_fault e) (has_fault-append a b)
  where
    either : (f : Bool) → has_fault (a ++ b) ≡ (has_fault a || has_fault b) → (f || has_fault (a ++ b)) ≡ ((f || has_fault a) || has_fault b)
    either true e = refl
    either false e = e

are_lawful-append : (a b : List Event) → are_lawful a ≡ true → are_lawful b ≡ true → are_lawful (a ++ b) ≡ true
are_lawful-append [] b p q = q
are_lawful-append (event ∷ a) b p q = both (is_lawful event) p (λ rest. are_lawful-append a b rest q)
  where
    both : (f : Bool) → (f && are_lawful a) ≡ true → (are_lawful a ≡ true → are_lawful (a ++ b) ≡ true) → (f && are_lawful (a ++ b)) ≡ true
    both true h rest = rest h
    both false h rest = absurd (true≢false (sym h))

rose_later : (a b c : ℕ) → Rose a b → b ≤ c → Rose a c
rose_later a b c r le = omega arith

rose_before : (a b c : ℕ) → a ≤ b → Rose b c → Rose a c
rose_before a b c le r = omega arith

pub nothing_added : (world : Seen) → Added world world []
nothing_added world = record {
  lawful = refl;
  told = extended-nothing world.log;
  later = omega arith;
  risen = λ no. absurd (true≢false (sym no));
  held = refl;
  rising = omega arith;
  fresh = refl;
  named = refl;
  origin = refl;
}

pub added_after : {old mid new : Seen} {one two : List Event} → Added old mid one → Added mid new two → Added old new (one ++ two)
added_after {old} {mid} {new} {one} {two} p q = record {
  lawful = are_lawful-append one two p.lawful q.lawful;
  told = q.told ∙ ap (λ log. extended log two) p.told ∙ extended-extended old.log one two;
  later = omega (arith, p.later, q.later);
  risen = λ some. rises (or_cases _ _ (sym (has_fault-append one two) ∙ some));
  held = q.held ∙ ap (λ held. held_after_all held two) p.held ∙ sym (held_after_all-append one two old.held);
  rising = subst (λ handles. Rising old.next handles new.next) (sym (given_in-append one two)) (Rising-append (given_in one) _ _ _ _ p.rising q.rising);
  fresh = all_fresh-append one two old.held p.fresh (ap (λ held. all_fresh held two) (sym p.held) ∙ q.fresh);
  named = all_name_held-append one two old.held p.named (ap (λ held. all_name_held held two) (sym p.held) ∙ q.named);
  origin = q.origin ∙ p.origin;
}
  where
    rises : (has_fault one ≡ true) ⊎ (has_fault two ≡ true) → Rose old.faults new.faults
    rises (inl first) = rose_later _ mid.faults _ (p.risen first) q.later
    rises (inr second) = rose_before _ mid.faults _ p.later (q.risen second)

-- one lawful event, which has its cause where it is a fault
pub one_added : {old new : Seen} (event : Event) → is_lawful event ≡ true → new.log ≡ extended old.log (event ∷ []) → old.faults ≤ new.faults
    → (is_fault event ≡ true → Rose old.faults new.faults)
    → new.held ≡ held_after old.held event → Rising old.next (given_by event) new.next → are_fresh old.held (given_by event) ≡ true → names_held old.held event ≡ true → new.origin ≡ old.origin
    → Added old new (event ∷ [])
one_added {old} {new} event lawful told later rise held rising fresh named origin = record {
  lawful = rw lawful refl;
  told = told;
  later = later;
  risen = λ some. rise (alone (is_fault event) some);
  held = held;
  rising = subst (λ handles. Rising old.next handles new.next) (sym (append-nil (given_by event))) rising;
  fresh = rw fresh refl;
  named = rw named refl;
  origin = origin;
}
  where
    alone : (b : Bool) → (b || false) ≡ true → b ≡ true
    alone true e = e
    alone false e = e

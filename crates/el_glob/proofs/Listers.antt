-- Listings that a lister was given, one after the other.
use Rattle.std.proofs.Common.{◌≡◌, ◌∙◌, ℕ, List, [], ◌∷◌, ◌++◌, Option, None, Some, Result, Ok, Err, refl, sym, ap, append_assoc, append-nil, Bool, true, false, ◌&&◌, ◌||◌, ◌⊎◌, inl, inr, ◌≤◌, true≢false, arith}
use Rattle.std.specs.Result.{IsErrAnd}
use Rattle.std.proofs.lemmas.Result.{err_from_is_err_and}
use Rattle.std.proofs.lemmas.Bool.{or_cases}
use Rattle.el_world.specs.World.{Rose, HasCause}
use Rattle.el_glob.specs.declared.listed.Listed.{Listed}
use Rattle.el_glob.specs.declared.listed.Listed.TheVariants.{Names, NoDirectory}
use Rattle.el_glob.specs.declared.listed.ListFault.{ListFault}
use Rattle.el_glob.specs.declared.listed.ListFault.TheVariants.{Failed, NoMemory}
use Rattle.el_glob.specs.declared.listed.ListEvent.{ListEvent}
use Rattle.el_glob.specs.Names.{IsListing}
use Rattle.el_glob.specs.Listers.{ListerSeen, extended, listing, is_fault, has_fault, is_lawful, are_lawful}
use Rattle.el_glob.specs.Listings.{one_asked}
use Rattle.el_glob.specs.Lists.{Listed as Added, answers_in}

extended-nothing : (log : Option (List ListEvent)) → log ≡ extended log []
unfolding extended
extended-nothing None = refl
extended-nothing (Some events) = ap Some (sym (append-nil events))

extended-extended : (log : Option (List ListEvent)) (a b : List ListEvent) → extended (extended log a) b ≡ extended log (a ++ b)
unfolding extended
extended-extended None a b = refl
extended-extended (Some events) a b = ap Some (append_assoc events a b)

has_fault-append : (a b : List ListEvent) → has_fault (a ++ b) ≡ (has_fault a || has_fault b)
has_fault-append [] b = refl
has_fault-append (e ∷ a) b = either (is_fault e.answer) (has_fault-append a b) where
  either : (f : Bool) → has_fault (a ++ b) ≡ (has_fault a || has_fault b) → (f || has_fault (a ++ b)) ≡ ((f || has_fault a) || has_fault b)
  either true same = refl
  either false same = same

are_lawful-append : (a b : List ListEvent) → are_lawful a ≡ true → are_lawful b ≡ true → are_lawful (a ++ b) ≡ true
are_lawful-append [] b p q = q
are_lawful-append (event ∷ a) b p q = both (is_lawful event.answer) p (λ rest. are_lawful-append a b rest q) where
  both : (f : Bool) → (f && are_lawful a) ≡ true → (are_lawful a ≡ true → are_lawful (a ++ b) ≡ true) → (f && are_lawful (a ++ b)) ≡ true
  both true h rest = rest h
  both false h rest = absurd (true≢false (sym h))

pub answers_in-append : (a b : List ListEvent) → answers_in (a ++ b) ≡ answers_in a ++ answers_in b
answers_in-append [] b = refl
answers_in-append (event ∷ a) b = ap (λ answers. event.answer ∷ answers) (answers_in-append a b)

rose_later : (a b c : ℕ) → Rose a b → b ≤ c → Rose a c
rose_later a b c r le = omega arith

rose_before : (a b c : ℕ) → a ≤ b → Rose b c → Rose a c
rose_before a b c le r = omega arith

pub nothing_added : (lister : ListerSeen) → Added lister lister []
nothing_added lister = record { lawful = refl; told = extended-nothing lister.log; later = omega arith; risen = λ no. absurd (true≢false (sym no)) }

pub added_after : {old mid new : ListerSeen} {one two : List ListEvent} → Added old mid one → Added mid new two → Added old new (one ++ two)
added_after {old} {mid} {new} {one} {two} p q = record {
  lawful = are_lawful-append one two p.lawful q.lawful;
  told = q.told ∙ ap (λ log. extended log two) p.told ∙ extended-extended old.log one two;
  later = omega (arith, p.later, q.later);
  risen = λ some. rises (or_cases _ _ (sym (has_fault-append one two) ∙ some));
} where
  rises : (has_fault one ≡ true) ⊎ (has_fault two ≡ true) → Rose old.faults new.faults
  rises (inl first) = rose_later _ mid.faults _ (p.risen first) q.later
  rises (inr second) = rose_before _ mid.faults _ p.later (q.risen second)

-- one listing that was answered, by the clauses of a lister
pub listed_added : {old new : ListerSeen} (dir path : List ℕ) (listed : Listed) → new.log ≡ extended old.log (listing dir path (Ok listed)) → HasCause {T = Listed} {E = ListFault} old.faults new.faults (Ok listed) Failed → IsListing listed
    → Added old new (one_asked dir path (Ok listed))
unfolding listing
listed_added {old} {new} dir path listed told cause names = record { lawful = lawful listed names; told = told; later = cause.later; risen = λ no. absurd (true≢false (sym no)) } where
  lawful : (listed : Listed) → IsListing listed → are_lawful (one_asked dir path (Ok listed)) ≡ true
  lawful (Names names) is = rw is refl
  lawful NoDirectory is = refl

pub failure_added : {old new : ListerSeen} (dir path : List ℕ) → new.log ≡ extended old.log (listing dir path (Err Failed)) → HasCause {T = Listed} {E = ListFault} old.faults new.faults (Err Failed) Failed
    → Added old new (one_asked dir path (Err Failed))
unfolding listing
failure_added dir path told cause = record { lawful = refl; told = told; later = cause.later; risen = λ _. cause.risen refl }

pub shortage_added : {old new : ListerSeen} (dir path : List ℕ) → new.log ≡ extended old.log (listing dir path (Err NoMemory)) → HasCause {T = Listed} {E = ListFault} old.faults new.faults (Err NoMemory) Failed
    → Added old new []
unfolding listing
shortage_added dir path told cause = record { lawful = refl; told = told; later = cause.later; risen = λ no. absurd (true≢false (sym no)) }

-- ---- a listing that isn't made for want of memory

pub no_listing : (log : Option (List ListEvent)) (dir path : List ℕ) (answer : Result Listed ListFault) → IsErrAnd answer (λ e. e ≡ NoMemory) → log ≡ extended log (listing dir path answer)
unfolding listing
no_listing log dir path answer is = let p = err_from_is_err_and answer is in rw (p.1, p.2) (extended-nothing log)

pub no_cause : (faults : ℕ) (answer : Result Listed ListFault) → IsErrAnd answer (λ e. e ≡ NoMemory) → HasCause faults faults answer Failed
no_cause faults answer is = let p = err_from_is_err_and answer is in let short : answer ≡ Err NoMemory = p.1 ∙ ap Err p.2 in record { later = omega arith; risen = λ failed. let never : ⊥ = let both = sym failed ∙ short in cc in absurd never }

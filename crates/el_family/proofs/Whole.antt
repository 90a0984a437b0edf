-- The family in which all members run in order.
use Rattle.std.proofs.Common.{◌≡◌, ℕ, suc, ◌+◌, ◌<◌, ◌≤◌, Bool, true, false, nat_lt, List, [], ◌∷◌, ◌++◌, length, Option, Some, None, refl, sym, ap, subst, ◌∙◌, arith, slice_get, ◌⊎◌, inl, inr, Result, IfErr}
use Rattle.std.specs.Prelude.{slice_index_or, if◌then◌else◌, Ok, Err}
use Rattle.el_world.specs.declared.answer.Answer.{Answer}
use Rattle.el_world.specs.declared.event.Event.{Event}
use Rattle.el_world.specs.declared.event.Event.TheVariants.{Start, Wait, Opened, Pipe, Feed, Read, Write, Close, Enter}
use Rattle.el_family.specs.declared.family.FamilyFault.{FamilyFault}
use Rattle.el_family.specs.declared.family.FamilyFault.TheVariants.{Full, NoMemory}
use Rattle.el_family.specs.declared.family.TheConstants.{MAX_MEMBERS}
use Rattle.el_family.specs.declared.member.Origin.{Origin}
use Rattle.el_family.specs.Names.{names_member}
use Rattle.el_family.specs.Processes.{Process, Run, new_process}
use Rattle.el_family.specs.Courses.{run_with}
use Rattle.el_family.specs.Families.{child_of, children_from, with_run, grown_by, after_run, if_run, unready, if_beyond, fault_or, refusal}
use Rattle.el_family.specs.Reports.{first_process, family_after, GrowsBeyond}

-- ---- refusals

-- a family that isn't beyond has no more members than it may
within_limit : (family : List Process) → if_beyond family ≡ None → length family ≤ MAX_MEMBERS
within_limit family = by (nat_lt MAX_MEMBERS (length family)) refl
  where
    by : (b : Bool) → nat_lt MAX_MEMBERS (length family) ≡ b → (if b then Some Full else None) ≡ None → length family ≤ MAX_MEMBERS
    by true lt e = let no : ⊥ = cc in absurd no
    by false ge e = grind (arith, ge)

-- and one that is has more
over_limit : (family : List Process) (fault : FamilyFault) → if_beyond family ≡ Some fault → (MAX_MEMBERS < length family) × (fault ≡ Full)
over_limit family fault = by (nat_lt MAX_MEMBERS (length family)) refl
  where
    by : (b : Bool) → nat_lt MAX_MEMBERS (length family) ≡ b → (if b then Some Full else None) ≡ Some fault → (MAX_MEMBERS < length family) × (fault ≡ Full)
    by true lt e = let same : fault ≡ Full = cc in (grind (arith, lt), same)
    by false ge e = let no : ⊥ = cc in absurd no

-- what isn't refused has room
pub has_room : (family : List Process) (place : ℕ) (answers : List Answer) (budget : ℕ) → refusal family place answers budget ≡ None → length (after_run family place answers budget) ≤ MAX_MEMBERS
has_room family place answers budget e = within_limit (after_run family place answers budget) (by (unready (slice_get family place)) e)
  where
    by : (first : Option FamilyFault) → fault_or first (if_beyond (after_run family place answers budget)) ≡ None → if_beyond (after_run family place answers budget) ≡ None
    by None e = e
    by (Some fault) e = let no : ⊥ = cc in absurd no

-- a process that is ready is refused for want of room alone
pub no_room : (family : List Process) (place : ℕ) (answers : List Answer) (budget : ℕ) (fault : FamilyFault) → unready (slice_get family place) ≡ None → refusal family place answers budget ≡ Some fault
    → (MAX_MEMBERS < length (after_run family place answers budget)) × (fault ≡ Full)
no_room family place answers budget fault ready e =
    over_limit (after_run family place answers budget) fault (sym (ap (λ first. fault_or first (if_beyond (after_run family place answers budget))) ready) ∙ e)

-- ---- who has run

-- from this number on nobody has run
abbrev pub UnrunFrom : ℕ → List Process → Type 0
UnrunFrom number [] = Unit {0}
UnrunFrom Prim.Native.Nat.zero (process ∷ family) = (process.ran ≡ None) × UnrunFrom 0 family
UnrunFrom (suc number) (process ∷ family) = UnrunFrom number family

unrun-later : (number : ℕ) (family : List Process) → UnrunFrom number family → UnrunFrom (suc number) family
unrun-later number [] p = tt
unrun-later Prim.Native.Nat.zero (process ∷ family) p = p.1
unrun-later (suc number) (process ∷ family) p = unrun-later number family p

unrun-all : (number : ℕ) (family : List Process) → UnrunFrom 0 family → UnrunFrom number family
unrun-all Prim.Native.Nat.zero family p = p
unrun-all (suc number) family p = unrun-later number family (unrun-all number family p)

unrun-append : (number : ℕ) (one two : List Process) → UnrunFrom number one → UnrunFrom 0 two → UnrunFrom number (one ++ two)
unrun-append number [] two p q = unrun-all number two q
unrun-append Prim.Native.Nat.zero (process ∷ one) two p q = (p.0, unrun-append 0 one two p.1 q)
unrun-append (suc number) (process ∷ one) two p q = unrun-append number one two p q

unrun-child : (origin : Origin) (event : Event) → UnrunFrom 0 (child_of origin event)
unrun-child origin (Start words env dir ends (Ok pid)) = by (names_member (slice_index_or words 0 []))
  where
    by : (b : Bool) → UnrunFrom 0 (if b then new_process words env dir (Some origin) ∷ [] else [])
    by true = (refl, tt)
    by false = tt
unrun-child origin (Start words env dir ends (Err fault)) = tt
unrun-child origin (Wait pid answer) = tt
unrun-child origin (Opened dir path mode answer) = tt
unrun-child origin (Pipe answer) = tt
unrun-child origin (Feed bytes answer) = tt
unrun-child origin (Read handle answer) = tt
unrun-child origin (Write handle bytes answer) = tt
unrun-child origin (Close handle) = tt
unrun-child origin (Enter dir path answer) = tt

unrun-children : (member event : ℕ) (events : List Event) → UnrunFrom 0 (children_from member event events)
unrun-children member event [] = tt
unrun-children member event (first ∷ events) =
    unrun-append 0 (child_of (record { member = member; event = event }) first) (children_from member (event + 1) events) (unrun-child (record { member = member; event = event }) first) (unrun-children member (event + 1) events)

unrun-with_run : (number : ℕ) (run : Run) (family : List Process) → UnrunFrom number family → UnrunFrom (suc number) (with_run number run family)
unrun-with_run number run [] p = tt
unrun-with_run Prim.Native.Nat.zero run (process ∷ family) p = p.1
unrun-with_run (suc number) run (process ∷ family) p = unrun-with_run number run family p

unrun-after_run : (number : ℕ) (family : List Process) (answers : List Answer) (budget : ℕ) → UnrunFrom number family → UnrunFrom (suc number) (after_run family number answers budget)
unrun-after_run number family answers budget p = by (slice_get family number)
  where
    by : (one : Option Process) → UnrunFrom (suc number) (grown_by one family number answers budget)
    by None = unrun-later number family p
    by (Some process) =
        let run = run_with process answers budget in
        unrun-append (suc number) (with_run number run family) (children_from number 0 run.events) (unrun-with_run number run family p) (unrun-children number 0 run.events)

unrun-family_after : (count : ℕ) (words : List (List ℕ)) (budget : ℕ) → UnrunFrom count (family_after count words budget)
unfolding family_after
unrun-family_after Prim.Native.Nat.zero words budget = (refl, tt)
unrun-family_after (suc count) words budget = unrun-after_run count (family_after count words budget) [] budget (unrun-family_after count words budget)

ready-at : (number : ℕ) (family : List Process) → number < length family → UnrunFrom number family → unready (slice_get family number) ≡ None
ready-at number [] lt p = absurd (omega (arith, lt))
ready-at Prim.Native.Nat.zero (process ∷ family) lt p = ap if_run p.0
ready-at (suc number) (process ∷ family) lt p = ready-at number family (omega (arith, lt)) p

-- ---- the loop

-- so many members have run, and there are no more than there may be
pub record Grows (count : ℕ) (words : List (List ℕ)) (budget : ℕ) (family : List Process) : Type 0 where
  pub reached : family ≡ family_after count words budget
  pub within : length family ≤ MAX_MEMBERS

pub grows_first : (words : List (List ℕ)) (budget : ℕ) (family : List Process) → family ≡ first_process words ∷ [] → Grows 0 words budget family
unfolding family_after
grows_first words budget family is = record { reached = is; within = let one : length family ≡ 1 = ap length is in omega (arith, one) }

pub grows_on : {words : List (List ℕ)} {budget : ℕ} {family new : List Process} (count : ℕ) → Grows count words budget family → new ≡ after_run family count [] budget → refusal family count [] budget ≡ None
    → Grows (count + 1) words budget new
unfolding family_after
grows_on {words} {budget} {family} {new} count p is due =
    let next : suc count ≡ count + 1 = omega arith in
    record {
      reached = is ∙ ap (λ family. after_run family count [] budget) p.reached ∙ ap (λ n. family_after n words budget) next;
      within = let room : length (after_run family count [] budget) ≤ MAX_MEMBERS = has_room family count [] budget due in subst (λ (f : List Process). length f ≤ MAX_MEMBERS) (sym is) room;
    }

-- a run that is refused would go beyond
pub refused_beyond : {words : List (List ℕ)} {budget : ℕ} {family : List Process} (count : ℕ) (fault : FamilyFault) → Grows count words budget family → count < length family → refusal family count [] budget ≡ Some fault
    → GrowsBeyond words budget × (fault ≡ Full)
unfolding family_after
refused_beyond {words} {budget} {family} count fault p lt e =
    let ready = ready-at count family lt (subst (UnrunFrom count) (sym p.reached) (unrun-family_after count words budget)) in
    let over = no_room family count [] budget fault ready e in
    (record { count = suc count; beyond = subst (λ (f : List Process). MAX_MEMBERS < length (after_run f count [] budget)) p.reached over.0 }, over.1)

module _ {words : List (List ℕ)} {budget : ℕ} {family : List Process} (count : ℕ) (fault told : FamilyFault) (same : fault ≡ told) where
  -- where a run is refused as full, the family would go beyond
  pub refused_full : Grows count words budget family → count < length family → (fault ≡ NoMemory) ⊎ (refusal family count [] budget ≡ Some fault) → told ≡ Full → GrowsBeyond words budget
  refused_full p lt (inl none) is = let no : ⊥ = cc in absurd no
  refused_full p lt (inr due) is = (refused_beyond count fault p lt due).0

  -- a run is refused as full, or for want of memory
  pub refused_only : {T : Type 0} (result : Result T FamilyFault) → result ≡ Err told → Grows count words budget family → count < length family → (fault ≡ NoMemory) ⊎ (refusal family count [] budget ≡ Some fault)
      → IfErr result (λ fault. (fault ≡ Full) ⊎ (fault ≡ NoMemory))
  refused_only result is p lt due = subst (λ r. IfErr r (λ fault. (fault ≡ Full) ⊎ (fault ≡ NoMemory))) (sym is) (by due)
    where
      by : (fault ≡ NoMemory) ⊎ (refusal family count [] budget ≡ Some fault) → (told ≡ Full) ⊎ (told ≡ NoMemory)
      by (inl none) = inr (sym same ∙ none)
      by (inr due) = inl (sym same ∙ (refused_beyond count fault p lt due).1)

-- What is known once a member has run.
use Rattle.std.proofs.Common.{◌≡◌, ℕ, ◌+◌, ◌<◌, ◌≤◌, Bool, true, false, nat_lt, List, ◌++◌, length, Some, None, refl, sym, ap, subst, ◌∙◌, arith, slice_get, Result, Ok, Err, IfErr, IsErrOf, OnOk, OnErr, ◌⊎◌, inl, inr}
use Rattle.std.specs.Prelude.{if◌then◌else◌}
use Rattle.std.proofs.lemmas.Bool.{lt-ltb}
use Rattle.std.proofs.lemmas.List.{length-map}
use Rattle.el_world.specs.declared.answer.Answer.{Answer}
use Rattle.el_family.specs.declared.family.FamilyFault.{FamilyFault}
use Rattle.el_family.specs.declared.family.FamilyFault.TheVariants.{Full, NoMemory}
use Rattle.el_family.specs.declared.family.TheConstants.{MAX_MEMBERS}
use Rattle.el_family.specs.declared.member.Member.{Member}
use Rattle.el_family.specs.Processes.{Process, Run, process_of, processes_of}
use Rattle.el_family.specs.Courses.{run_with, IsRunOf}
use Rattle.el_family.specs.Families.{children_of, with_run, grown, grown_by, after_run, unready, if_beyond, fault_or, refusal, IsFamily}
use Rattle.el_family.proofs.Grown.{length-grown, still_family}

-- the process at a place, which hasn't run, runs so, and these are its children
pub record Runs (family : List Process) (place : ℕ) (answers : List Answer) (budget : ℕ) (process : Process) (run : Run) (children : List Process) : Type 0 where
  pub was : slice_get family place ≡ Some process
  pub ready : unready (slice_get family place) ≡ None
  pub runs : run ≡ run_with process answers budget
  pub right : IsRunOf process run
  pub kids : children ≡ children_of place run.events

if_within : (family : List Process) → length family ≤ MAX_MEMBERS → if_beyond family ≡ None
if_within family within = by (nat_lt MAX_MEMBERS (length family)) refl
  where
    by : (b : Bool) → nat_lt MAX_MEMBERS (length family) ≡ b → (if b then Some Full else None) ≡ None
    by true lt = let less : MAX_MEMBERS < length family = grind (arith, lt) in absurd (omega (arith, less, within))
    by false ge = refl

module _ (old kids : List Member) {place : ℕ} {answers : List Answer} {budget : ℕ} {process : Process} {run : Run} (known : Runs (processes_of old) place answers budget process run (processes_of kids)) where
  abbrev pub settled : List Process
  settled = with_run place run (processes_of old) ++ processes_of kids

  settled-grown : settled ≡ grown (processes_of old) place run
  settled-grown = ap (λ children. with_run place run (processes_of old) ++ children) known.kids

  settled-after_run : settled ≡ after_run (processes_of old) place answers budget
  settled-after_run = settled-grown ∙ ap (grown (processes_of old) place) known.runs ∙ sym (ap (λ one. grown_by one (processes_of old) place answers budget) known.was)

  kids_length : length (children_of place run.events) ≡ length kids
  kids_length = sym (ap length known.kids) ∙ length-map kids process_of

  length-after_run : length (after_run (processes_of old) place answers budget) ≡ length old + length kids
  length-after_run =
      let all : length (after_run (processes_of old) place answers budget) ≡ length (processes_of old) + length (children_of place run.events) =
      sym (ap length settled-after_run) ∙ ap length settled-grown ∙ length-grown (processes_of old) place run in
      let olds : length (processes_of old) ≡ length old = length-map old process_of in
      let news : length (children_of place run.events) ≡ length kids = kids_length in
      omega (arith, all, olds, news)

  due_after : refusal (processes_of old) place answers budget ≡ if_beyond (after_run (processes_of old) place answers budget)
  due_after = ap (λ first. fault_or first (if_beyond (after_run (processes_of old) place answers budget))) known.ready

  -- where there is no room the run is refused as full
  pub full_due : MAX_MEMBERS < length old + length kids → refusal (processes_of old) place answers budget ≡ Some Full
  full_due over =
      let more : MAX_MEMBERS < length (after_run (processes_of old) place answers budget) = let all = length-after_run in omega (arith, all, over) in
      due_after ∙ ap (λ (b : Bool). if b then Some Full else None) (lt-ltb MAX_MEMBERS (length (after_run (processes_of old) place answers budget)) more)

  -- where there is room it isn't refused
  pub none_due : length old + length kids ≤ MAX_MEMBERS → refusal (processes_of old) place answers budget ≡ None
  none_due fits = let all = length-after_run in due_after ∙ if_within (after_run (processes_of old) place answers budget) (omega (arith, all, fits))

  module _ (new : List Process) (r : Result (Unit {0}) FamilyFault) where
    pub settled_ok : OnOk r (new ≡ settled) → OnOk r (new ≡ after_run (processes_of old) place answers budget)
    settled_ok = by r
      where
        by : (r : Result (Unit {0}) FamilyFault) → OnOk r (new ≡ settled) → OnOk r (new ≡ after_run (processes_of old) place answers budget)
        by (Ok done) is = is ∙ settled-after_run
        by (Err fault) is = tt

    pub settled_due : OnOk r (length old + length kids ≤ MAX_MEMBERS) → OnOk r (refusal (processes_of old) place answers budget ≡ None)
    settled_due = by r
      where
        by : (r : Result (Unit {0}) FamilyFault) → OnOk r (length old + length kids ≤ MAX_MEMBERS) → OnOk r (refusal (processes_of old) place answers budget ≡ None)
        by (Ok done) fits = none_due fits
        by (Err fault) fits = tt

    pub settled_refused : (IsErrOf r Full → MAX_MEMBERS < length old + length kids) → IfErr r (λ fault. (fault ≡ Full) ⊎ (fault ≡ NoMemory))
        → IfErr r (λ fault. (fault ≡ NoMemory) ⊎ (refusal (processes_of old) place answers budget ≡ Some fault))
    settled_refused = by r
      where
        by : (r : Result (Unit {0}) FamilyFault) → (IsErrOf r Full → MAX_MEMBERS < length old + length kids) → IfErr r (λ fault. (fault ≡ Full) ⊎ (fault ≡ NoMemory))
            → IfErr r (λ fault. (fault ≡ NoMemory) ⊎ (refusal (processes_of old) place answers budget ≡ Some fault))
        by (Ok done) over only = tt
        by (Err fault) over (inl is) = inr (full_due (over (ap Err is)) ∙ ap Some (sym is))
        by (Err fault) over (inr is) = inl is

  pub settled_family : (new : List Member) (r : Result (Unit {0}) FamilyFault) → OnOk r (processes_of new ≡ settled) → OnErr r (new ≡ old) → OnOk r (length old + length kids ≤ MAX_MEMBERS) → IsFamily (processes_of old)
      → IsFamily (processes_of new)
  settled_family new (Ok done) ok err fits p =
      let olds : length (processes_of old) ≡ length old = length-map old process_of in
      let news : length (children_of place run.events) ≡ length kids = kids_length in
      subst IsFamily (sym (ok ∙ settled-grown)) (still_family (processes_of old) place run process known.was known.right (omega (arith, olds, news, fits)) p)
  settled_family new (Err fault) ok err fits p = subst (λ (members : List Member). IsFamily (processes_of members)) (sym err) p

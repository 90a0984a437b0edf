-- How a family grows by a run.
use Rattle.std.proofs.Common.{◌≡◌, ℕ, suc, ◌+◌, ◌<◌, ◌≤◌, Bool, true, false, List, [], ◌∷◌, ◌++◌, length, Some, refl, sym, ap, ap₂, subst, ◌∙◌, append-nil, append_assoc, length-append, arith, slice_get, drop}
use lib.ListN.{set, get_or}
use Rattle.std.specs.Prelude.{slice_index_or, if◌then◌else◌, Ok, Err}
use Rattle.std.proofs.Math.Seq.{drop-cons, drop-length}
use Rattle.std.proofs.lemmas.List.{map-append}
use Rattle.std.proofs.lemmas.Option.{slice_get_within, get_or_from_slice_get}
use Rattle.el_world.specs.declared.event.Event.{Event}
use Rattle.el_world.specs.declared.event.Event.TheVariants.{Start, Wait, Opened, Pipe, Feed, Read, Write, Close, Enter}
use Rattle.el_family.specs.declared.family.TheConstants.{MAX_MEMBERS}
use Rattle.el_family.specs.declared.member.Member.{Member}
use Rattle.el_family.specs.declared.member.Origin.{Origin}
use Rattle.el_family.specs.declared.member.Ran.{Ran}
use Rattle.el_family.specs.Names.{names_member}
use Rattle.el_family.specs.Processes.{Process, Run, new_process, run_of, process_of, processes_of}
use Rattle.el_family.specs.Courses.{IsRunOf}
use Rattle.el_family.specs.Families.{child_of, children_from, children_of, with_run, grown, AllRanRight, IsFamily}

-- ---- children, event by event

pub one_more_child : (member place : ℕ) (events : List Event) (event : Event) (children more all : List Process) → slice_get events place ≡ Some event → more ≡ children ++ child_of (record { member = member; event = place }) event
    → children ++ children_from member place (drop place events) ≡ all → more ++ children_from member (place + 1) (drop (place + 1) events) ≡ all
one_more_child member place events event children more all at is so_far =
    let next : suc place ≡ place + 1 = omega arith in
    let here : drop place events ≡ event ∷ drop (place + 1) events =
    drop-cons events place event (slice_get_within events place event at) ∙ ap₂ (λ e n. e ∷ drop n events) (get_or_from_slice_get events place event event at) next in
    ap (λ ps. ps ++ children_from member (place + 1) (drop (place + 1) events)) is
    ∙ append_assoc children (child_of (record { member = member; event = place }) event) (children_from member (place + 1) (drop (place + 1) events))
    ∙ ap (λ es. children ++ children_from member place es) (sym here)
    ∙ so_far

pub all_children : (member place : ℕ) (events : List Event) (children all : List Process) → length events ≤ place → place ≤ length events → children ++ children_from member place (drop place events) ≡ all → children ≡ all
all_children member place events children all from to so_far =
    let over : drop place events ≡ [] = let same : place ≡ length events = omega arith in ap (λ n. drop n events) same ∙ drop-length events in
    sym (append-nil children) ∙ ap (λ es. children ++ children_from member place es) (sym over) ∙ so_far

-- ---- one member ran

-- the member at a place ran so, and others were put behind
pub ran_in_place : (members more : List Member) (place : ℕ) (ran : Ran) (member d : Member) → place < length members → member ≡ get_or (members ++ more) place d
    → processes_of (set (members ++ more) place (record member { ran = Some ran })) ≡ with_run place (run_of ran) (processes_of members) ++ processes_of more
ran_in_place [] more place ran member d lt is = absurd (omega arith)
ran_in_place (first ∷ members) more Prim.Native.Nat.zero ran member d lt is =
    ap (λ (m : Member). process_of (record m { ran = Some ran }) ∷ processes_of (members ++ more)) is
    ∙ ap (λ rest. process_of (record first { ran = Some ran }) ∷ rest) (map-append process_of members more)
ran_in_place (first ∷ members) more (suc place) ran member d lt is = ap (λ rest. process_of first ∷ rest) (ran_in_place members more place ran member d (omega arith) is)

length-with_run : (place : ℕ) (run : Run) (family : List Process) → length (with_run place run family) ≡ length family
length-with_run place run [] = refl
length-with_run Prim.Native.Nat.zero run (process ∷ family) = omega arith
length-with_run (suc place) run (process ∷ family) = omega (arith, length-with_run place run family)

pub length-grown : (family : List Process) (place : ℕ) (run : Run) → length (grown family place run) ≡ length family + length (children_of place run.events)
length-grown family place run = omega (arith, length-append (with_run place run family) (children_of place run.events), length-with_run place run family)

-- ---- what has run

right-append : (one two : List Process) → AllRanRight one → AllRanRight two → AllRanRight (one ++ two)
right-append [] two p q = q
right-append (process ∷ one) two p q = (p.0, right-append one two p.1 q)

right-child : (origin : Origin) (event : Event) → AllRanRight (child_of origin event)
right-child origin (Start words env dir ends (Ok pid)) = by (names_member (slice_index_or words 0 []))
  where
    by : (b : Bool) → AllRanRight (if b then new_process words env dir (Some origin) ∷ [] else [])
    by true = (tt, tt)
    by false = tt
right-child origin (Start words env dir ends (Err fault)) = tt
right-child origin (Wait pid answer) = tt
right-child origin (Opened dir path mode answer) = tt
right-child origin (Pipe answer) = tt
right-child origin (Feed bytes answer) = tt
right-child origin (Read handle answer) = tt
right-child origin (Write handle bytes answer) = tt
right-child origin (Close handle) = tt
right-child origin (Enter dir path answer) = tt

-- children haven't run
right-children : (member event : ℕ) (events : List Event) → AllRanRight (children_from member event events)
right-children member event [] = tt
right-children member event (first ∷ events) =
    right-append (child_of (record { member = member; event = event }) first) (children_from member (event + 1) events) (right-child (record { member = member; event = event }) first) (right-children member (event + 1) events)

right-with_run : (family : List Process) (place : ℕ) (run : Run) (process : Process) → slice_get family place ≡ Some process → IsRunOf process run → AllRanRight family → AllRanRight (with_run place run family)
right-with_run [] place run process is right p = tt
right-with_run (first ∷ family) Prim.Native.Nat.zero run process is right p =
    let same : process ≡ first = cc in (ran_first (subst (λ (q : Process). IsRunOf q run) same right), p.1)
  where
    ran_first : IsRunOf first run → IsRunOf (record first { ran = Some run }) run
    ran_first r = record { lawful = r.lawful; ended = r.ended; meant = r.meant }
right-with_run (first ∷ family) (suc place) run process is right p = (p.0, right-with_run family place run process is right p.1)

-- a family that has room for the children is still one
pub still_family : (family : List Process) (place : ℕ) (run : Run) (process : Process) → slice_get family place ≡ Some process → IsRunOf process run → length family + length (children_of place run.events) ≤ MAX_MEMBERS → IsFamily family
    → IsFamily (grown family place run)
still_family family place run process is right fits p = record {
  within = omega (arith, length-grown family place run, fits);
  right = right-append (with_run place run family) (children_of place run.events) (right-with_run family place run process is right p.right) (right-children place 0 run.events);
}

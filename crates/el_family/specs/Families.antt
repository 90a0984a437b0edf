-- Families: a process, and those of this project that it and its children start.
use Rattle.std.specs.Prelude.{ℕ, suc, ◌+◌, ◌≤◌, List, [], ◌∷◌, ◌++◌, Option, None, Some, Ok, length, if◌then◌else◌, slice_get, slice_index_or, nat_lt}
use Rattle.el_world.specs.declared.answer.Answer.{Answer}
use Rattle.el_world.specs.declared.event.Event.{Event}
use Rattle.el_world.specs.declared.event.Event.TheVariants.{Start}
use Rattle.el_family.specs.declared.family.FamilyFault.{FamilyFault}
use Rattle.el_family.specs.declared.family.FamilyFault.TheVariants.{NoMember, AlreadyRun, Full}
use Rattle.el_family.specs.declared.family.TheConstants.{MAX_MEMBERS}
use Rattle.el_family.specs.declared.member.Origin.{Origin}
use Rattle.el_family.specs.Names.{names_member}
use Rattle.el_family.specs.Processes.{Process, Run, new_process}
use Rattle.el_family.specs.Courses.{run_with, IsRunOf}

-- ---- children

-- the child of a start that gave a process and whose first word names a member: it has the start's words, variables and directory
abbrev pub child_of : Origin → Event → List Process
child_of origin (Start words env dir ends (Ok pid)) = if names_member (slice_index_or words 0 []) then new_process words env dir (Some origin) ∷ [] else []
child_of origin other = []

-- the children of a member by its events, of which the first has this number
abbrev pub children_from : (member event : ℕ) → List Event → List Process
children_from member event [] = []
children_from member event (first ∷ events) = child_of (record { member = member; event = event }) first ++ children_from member (event + 1) events

-- the children of a member by all its events, in their order
abbrev pub children_of : (member : ℕ) → List Event → List Process
children_of member events = children_from member 0 events

-- ---- one member runs

-- the process at a place ran so; all others stay
abbrev pub with_run : (place : ℕ) → Run → List Process → List Process
with_run place run [] = []
with_run Prim.Native.Nat.zero run (process ∷ family) = record process { ran = Some run } ∷ family
with_run (suc place) run (process ∷ family) = process ∷ with_run place run family

-- the process at a place ran so, and its children are put last
abbrev pub grown : List Process → (place : ℕ) → Run → List Process
grown family place run = with_run place run family ++ children_of place run.events

-- the family once this one of its processes, which has this place, has run; without one it is as before
abbrev pub grown_by : Option Process → List Process → (place : ℕ) → List Answer → (budget : ℕ) → List Process
grown_by None family place answers budget = family
grown_by (Some process) family place answers budget = grown family place (run_with process answers budget)

-- the family once the process at a place has run with this budget over a new world with these answers
abbrev pub after_run : List Process → (place : ℕ) → List Answer → (budget : ℕ) → List Process
after_run family place answers budget = grown_by (slice_get family place) family place answers budget

-- ---- what isn't run

-- a process that has run isn't run again
abbrev pub if_run : Option Run → Option FamilyFault
if_run None = None
if_run (Some run) = Some AlreadyRun

-- why a process isn't run, whatever it would do: there is none with this number, or it has run
abbrev pub unready : Option Process → Option FamilyFault
unready None = Some NoMember
unready (Some process) = if_run process.ran

-- a family has at most so many members
abbrev pub if_beyond : List Process → Option FamilyFault
if_beyond family = if nat_lt MAX_MEMBERS (length family) then Some Full else None

-- the first fault of two
abbrev pub fault_or : Option FamilyFault → Option FamilyFault → Option FamilyFault
fault_or None other = other
fault_or (Some fault) other = Some fault

-- why the process at a place isn't run; besides there is want of memory
abbrev pub refusal : List Process → (place : ℕ) → List Answer → (budget : ℕ) → Option FamilyFault
refusal family place answers budget = fault_or (unready (slice_get family place)) (if_beyond (after_run family place answers budget))

-- ---- what is true of each family

-- a process that has run did what the top call does with what it was handed
abbrev pub RanRight : Process → Option Run → Type 0
RanRight process None = Unit {0}
RanRight process (Some run) = IsRunOf process run

-- so did all
abbrev pub AllRanRight : List Process → Type 0
AllRanRight [] = Unit {0}
AllRanRight (process ∷ family) = RanRight process process.ran × AllRanRight family

-- a family has no more members than it may, and those that have run did what the top call does
pub record IsFamily (family : List Process) : Type 0 where
  pub within : length family ≤ MAX_MEMBERS
  pub right : AllRanRight family

-- Whether the ends that members were told of their children are those of these.
use Rattle.std.specs.Prelude.{ℕ, Bool, true, false, ◌||◌, not, ◌==◌, List, [], Option, None, Some, Result, Ok, slice_get}
use Rattle.std.specs.List.{list_all}
use Rattle.el_world.specs.declared.event.Event.{Event}
use Rattle.el_world.specs.declared.event.Event.TheVariants.{Start, Wait}
use Rattle.el_world.specs.declared.event.Ended.{Ended}
use Rattle.el_world.specs.declared.event.Ended.TheVariants.{Exited}
use Rattle.el_world.specs.declared.event.Fault.{Fault}
use Rattle.el_world.specs.declared.event.Pid.{Pid}
use Rattle.el_world.specs.declared.log.Log.{Log}
use Rattle.el_world.specs.Log.{events_of}
use Rattle.el_real.specs.Statuses.{status_of}
use Rattle.el_family.specs.declared.member.Origin.{Origin}
use Rattle.el_family.specs.Processes.{Process, Run}

-- the process ended by itself, with this status
abbrev pub is_exit : (code : ℕ) → Result Ended Fault → Bool
is_exit code (Ok (Exited other)) = other == code
is_exit code answer = false

-- a wait for the process with this number was answered so; of any other call nothing is asked
abbrev pub fits : (pid : Pid) → (code : ℕ) → Event → Bool
fits pid code (Wait other answer) = not (other.number == pid.number) || is_exit code answer
fits pid code event = true

-- the process that a start gave
abbrev pub started_by : Option Event → Option Pid
started_by (Some (Start words env dir ends (Ok pid))) = Some pid
started_by event = None

-- so it is with all events of the parent, where there is a process
abbrev pub all_fit : Option Pid → (code : ℕ) → List Event → Bool
all_fit None code events = true
all_fit (Some pid) code events = list_all (fits pid code) events

-- the events of a run; none where there is none
abbrev pub events_in : Option Run → List Event
events_in None = []
events_in (Some run) = run.events

-- the events of a process; none where there is none, or where it hasn't run
abbrev pub events_of_process : Option Process → List Event
events_of_process None = []
events_of_process (Some process) = events_in process.ran

-- each wait of these events for the process that was started there was answered with this status
abbrev pub child_told : List Event → (place : ℕ) → (code : ℕ) → Bool
child_told events place code = all_fit (started_by (slice_get events place)) code events

-- so it is with the parent of a child that has run; nothing is asked of one that hasn't, and of the first process
abbrev pub child_agrees : List Process → Option Origin → Option Run → Bool
child_agrees family None ran = true
child_agrees family (Some origin) None = true
child_agrees family (Some origin) (Some run) = child_told (events_of_process (slice_get family origin.member)) origin.event (status_of run.finish)

-- so it is with each member
abbrev pub agrees : List Process → Bool
agrees family = list_all (λ (child : Process). child_agrees family child.origin child.ran) family

-- ---- inside

-- the events of a log, where there is one; only the code's contracts need it
abbrev pub events_in_log : Option Log → List Event
events_in_log None = []
events_in_log (Some log) = events_of log

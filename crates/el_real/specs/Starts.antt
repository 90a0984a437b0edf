-- Why a start failed, as the system's number tells it.
use Rattle.std.specs.Prelude.{Bool, true, false, ℤ, pos, Result, Ok, Err, ◌||◌, if◌then◌else◌}
use Rattle.std.specs.Ordering.{int_eq}
use Rattle.el_world.specs.declared.event.Pid.{Pid}
use Rattle.el_world.specs.declared.event.StartFault.{StartFault}
use Rattle.el_world.specs.declared.event.StartFault.TheVariants.{NotFound, NotStartable, Failed}
use Rattle.el_real.specs.Lacks.{start_fault_of}
use Rattle.el_real.specs.declared.lack.Lack.{Lack}
use Rattle.el_real.specs.declared.lack.Lack.TheVariants.{Refused}
use Rattle.el_real.specs.declared.unstarted.Unstarted.{Unstarted}
use Rattle.el_real.specs.declared.unstarted.Unstarted.TheVariants.{Lacking, NoDirectory, Refused as RefusedStart}

-- the number says that no process or no descriptor is to be had: EPERM (a filter lets no process be made), EBADF (the limit leaves no number for
-- the child's), EAGAIN, ENFILE or EMFILE
abbrev pub is_lack : ℤ → Bool
is_lack number = int_eq number (pos 1) || (int_eq number (pos 9) || (int_eq number (pos 11) || (int_eq number (pos 23) || int_eq number (pos 24))))

-- ENOENT is no such file, a lack or no number is a failed call, and any other number a file that can't be run
abbrev pub command_fault_of : Lack → StartFault
command_fault_of (Refused number) = if int_eq number (pos 2) then NotFound else (if is_lack number then Failed else NotStartable)
command_fault_of lack = start_fault_of lack

-- the system doesn't run the command, and all that it needs is there
abbrev pub is_refused : Unstarted → Bool
is_refused (RefusedStart lack) = true
is_refused unstarted = false

-- what a start answers: only a refused one may be its command's fault
abbrev pub answer_to_start : Unstarted → StartFault
answer_to_start (Lacking lack) = start_fault_of lack
answer_to_start (NoDirectory lack) = start_fault_of lack
answer_to_start (RefusedStart lack) = command_fault_of lack

-- the answer to a start
abbrev pub start_answer_of : Result Pid Unstarted → Result Pid StartFault
start_answer_of (Ok pid) = Ok pid
start_answer_of (Err unstarted) = Err (answer_to_start unstarted)

-- The state of a process, and how it ends.
use Rattle.std.specs.Prelude.{ℕ, List, ◌∷◌, replicate, Option, None, Some}
use Rattle.el_env.specs.Vars.{Vars}
use Rattle.el_world.specs.declared.event.Handle.{Handle}
use Rattle.el_world.specs.declared.event.Pid.{Pid}
use Rattle.el_world.specs.Plans.{Plan}

-- what a process keeps from one program to the next: the variables; what each of the numbers 0 to 63 holds; the directory;
-- and the processes that were started and not waited for, in order of start
pub record State : Type 0 where
  pub env : Vars
  pub fds : List (Option Handle)
  pub dir : List ℕ
  pub kids : List Pid

-- a process begins with its own handles at the numbers 0 to 2, and nothing at the other 61
abbrev pub standard_fds : List (Option Handle)
standard_fds = Some (record { number = 0 }) ∷ Some (record { number = 1 }) ∷ Some (record { number = 2 }) ∷ replicate 61 None

-- how a process ends, with its state: with a status, or where a unit is due and none is left
pub data End : Type 0 where
  Status : (code : ℕ) → State → End
  Spent : State → End

-- what is done in a process: it gives a result, or the process ends
abbrev pub Task : Type 0 → Type 0
Task A = Plan End A

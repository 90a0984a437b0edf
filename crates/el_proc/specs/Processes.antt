-- Processes, as definitions see them.
use Rattle.std.specs.Prelude.{ℕ, List, Result, Ok, Err}
use Rattle.el_world.specs.States.{State}
use Rattle.el_world.specs.declared.finish.Finish.{Finish}
use Rattle.el_world.specs.declared.finish.Finish.TheVariants.{Status, Spent, NoMemory}
use Rattle.el_proc.specs.declared.process.Proc.{Proc}
use Rattle.el_proc.specs.declared.next.Next.{Next}
use Rattle.el_proc.specs.declared.next.Next.TheVariants.{Go, End, Spent as NextSpent, NoMemory as NextNoMemory}

-- what a process keeps from one program to the next
abbrev pub state_of : Proc → State
state_of proc = record { env = proc.env; fds = proc.fds; dir = proc.dir; kids = proc.kids }

-- words that are still to be run, and the state in which they are
pub record Left : Type 0 where
  pub words : List (List ℕ)
  pub state : State

-- the words that a process has still to run, and its state
abbrev pub left_of : Proc → Left
left_of proc = record { words = proc.words; state = state_of proc }

-- how a program's answer tells of it: the process goes on, or it ended so
abbrev pub way_of : Next → Result (Unit {0}) Finish
way_of Go = Ok tt
way_of (End code) = Err (Status code)
way_of NextSpent = Err Spent
way_of NextNoMemory = Err NoMemory

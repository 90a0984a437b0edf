-- Runs over a replaying world. Only the code's contracts need it.
use Rattle.el_room.specs.Vocabulary.{Vars, Proc, state_of, Event, Finish, State, Task, finished, PlanAgrees}
use Rattle.std.specs.Prelude.{◌≡◌, ℕ, List, Option, None, Some}
use Rattle.el_check.specs.declared.kind.CheckFault.{CheckFault}
use Rattle.el_check.specs.declared.kind.CheckKind.{CheckKind}
use Rattle.el_check.specs.declared.kind.CheckKind.TheVariants.{NoMemory}
use Rattle.el_trace.specs.Checked.{begun_state}
use Rattle.el_world.specs.declared.finish.Finish.TheVariants as finishes
use Rattle.el_record.specs.declared.trace.RunEnd.{RunEnd}
use Rattle.el_record.specs.declared.trace.RunEnd.TheVariants.{Status, Spent}
use Rattle.el_trace.specs.declared.verdict.RunFault.{RunFault}
use Rattle.el_trace.specs.declared.verdict.RunFault.TheVariants.{Script, NoMemory as NoRunMemory}
use Rattle.el_trace.specs.Replays.{Retraces}

-- a process at its start has these words, this state and so many units
pub record IsFirst (words : List (List ℕ)) (env : Vars) (dir : List ℕ) (units : ℕ) (proc : Proc) : Type 0 where
  pub words_are : proc.words ≡ words
  pub state_is : state_of proc ≡ begun_state env dir
  pub units_are : proc.budget ≡ units

-- The task did these events and finished so, over a world that replays the recorded ones.
pub record IsReplayed (task : Task ⊥) (units : ℕ) (recorded own : List Event) (finish : Finish) : Type 0 where
  pub state : State
  pub left : ℕ
  pub agrees : PlanAgrees task units own (finished {A = ⊥} finish state) left
  pub retraces : Retraces recorded own

-- what a fault of the checker is here
abbrev pub fault_by : CheckKind → (line : ℕ) → RunFault
fault_by NoMemory line = NoRunMemory
fault_by kind line = Script kind line

abbrev pub fault_of : CheckFault → RunFault
fault_of fault = fault_by fault.kind fault.line

-- how a run ended; none where it had no memory
abbrev pub end_of : Finish → Option RunEnd
end_of (finishes.Status code) = Some (Status code)
end_of finishes.Spent = Some Spent
end_of finishes.NoMemory = None

-- What a recorded run is checked against: the whole meaning of its script.
use Rattle.el_room.specs.Vocabulary.{Vars, Event, found_in, Made, made, State, End, standard_fds}
use Rattle.std.specs.Prelude.{ℕ, List, []}
use Rattle.el_tree.specs.Trees.{Tree}
use Rattle.el_check.specs.declared.params.Params.{Params}
use Rattle.el_check.specs.Scripts.{first_scope, IsAcceptedScript}
use Rattle.el_check.specs.Faults.{IsScriptFault}
use Rattle.el_meaning.specs.Meaning.{whole_meaning}
use Rattle.el_record.specs.declared.trace.RunEnd.{RunEnd}
use Rattle.el_trace.specs.declared.verdict.Verdict.{Verdict}
use Rattle.el_trace.specs.declared.verdict.RunFault.{RunFault}
use Rattle.el_trace.specs.declared.verdict.RunFault.TheVariants.{Script, NoMemory}
use Rattle.el_trace.specs.Runs.{IsVerdict}

-- a process at its start: its variables, its own descriptors, its directory, and no children
abbrev pub begun_state : Vars → (dir : List ℕ) → State
begun_state env dir = record { env = env; fds = standard_fds; dir = dir; kids = [] }

-- what a tree means from the first scope and state on, with so many units, on the answers in these events
abbrev pub meant_by : Params → (zero : List ℕ) → (args : List (List ℕ)) → Vars → (dir : List ℕ) → (units : ℕ) → List Event → Tree → Made End ⊥
meant_by params zero args env dir units events tree = made (whole_meaning tree (first_scope params zero args) (begun_state env dir)) units (found_in events)

-- The script is accepted with a tree, and this is what is said of the events and the end beside what the tree means.
pub record IsJudged (params : Params) (script zero : List ℕ) (args : List (List ℕ)) (env : Vars) (dir : List ℕ) (units : ℕ) (events : List Event) (ending : RunEnd) (verdict : Verdict) : Type 0 where
  pub tree : Tree
  pub accepted : IsAcceptedScript params script tree
  pub judged : IsVerdict (meant_by params zero args env dir units events tree) events ending verdict

-- the script isn't accepted, and this is its first fault; or there was no memory
abbrev pub IsRefused : Params → (script : List ℕ) → RunFault → Type 0
IsRefused params script (Script kind line) = IsScriptFault params script kind line
IsRefused params script NoMemory = Unit {0}

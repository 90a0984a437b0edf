-- Laws on scripts: there is one tree or one first fault, and never both; and this is what is computed.
use Rattle.std.specs.Prelude.{◌≡◌, ◌↔◌, ℕ, List, Ok, Err}
use Rattle.el_tree.specs.Trees.{Tree}
use Rattle.el_check.specs.declared.params.Params.{Params}
use Rattle.el_check.specs.declared.kind.CheckKind.{CheckKind}
use Rattle.el_check.specs.declared.kind.CheckKind.TheVariants.{NoMemory}
use Rattle.el_check.specs.Scripts.{IsAcceptedScript}
use Rattle.el_check.specs.Faults.{IsScriptFault}
use Rattle.el_check.specs.Checks.{checked}

-- a script is accepted with one tree at most
abbrev pub OneTree : Type 0
OneTree = (params : Params) (script : List ℕ) (one other : Tree) → IsAcceptedScript params script one → IsAcceptedScript params script other → one ≡ other

-- a script has one first fault at most, on one line
abbrev pub OneFault : Type 0
OneFault = (params : Params) (script : List ℕ) (one other : CheckKind) (here there : ℕ) → IsScriptFault params script one here → IsScriptFault params script other there → (one ≡ other) × (here ≡ there)

-- an accepted script has no fault
abbrev pub NeverBoth : Type 0
NeverBoth = (params : Params) (script : List ℕ) (tree : Tree) (kind : CheckKind) (line : ℕ) → IsAcceptedScript params script tree → IsScriptFault params script kind line → ⊥

-- what is computed as a tree is the one with which the script is accepted, and the other way round
abbrev pub TreeIsComputed : Type 0
TreeIsComputed = (params : Params) (script : List ℕ) (tree : Tree) → IsAcceptedScript params script tree ↔ (checked params script ≡ Ok tree)

-- what is computed as a fault is the first one, and the other way round
abbrev pub FaultIsComputed : Type 0
FaultIsComputed = (params : Params) (script : List ℕ) (kind : CheckKind) (line : ℕ) → IsScriptFault params script kind line ↔ (checked params script ≡ Err (kind, line))

-- want of memory is computed of no script
abbrev pub MemoryIsNeverComputed : Type 0
MemoryIsNeverComputed = (params : Params) (script : List ℕ) (line : ℕ) → checked params script ≡ Err (NoMemory, line) → ⊥

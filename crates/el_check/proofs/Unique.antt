-- A script has one tree or one first fault, and never both: it is what is computed.
use Rattle.std.proofs.Common.{ℕ, Ok, Err, sym, ap, ◌∙◌}
use Rattle.el_tree.specs.Trees.{Tree}
use Rattle.el_check.specs.declared.kind.CheckKind.{CheckKind}
use Rattle.el_check.specs.Checks.{Checked}
use Rattle.el_check.specs.Laws.{OneTree, OneFault, NeverBoth}
use Rattle.el_check.proofs.Computed.{accepted-checked, fault-checked}
pub use Rattle.el_check.proofs.Computed.{accepted-spells}

-- the tree, or else this one
abbrev tree-or : Tree → Checked → Tree
tree-or other (Ok tree) = tree
tree-or other (Err fault) = other

-- the fault, or else this one
abbrev fault-or : CheckKind × ℕ → Checked → CheckKind × ℕ
fault-or other (Ok tree) = other
fault-or other (Err fault) = fault

pub one-script-tree : OneTree
one-script-tree params script one other is is' = ap (tree-or one) (sym (accepted-checked params script one is) ∙ accepted-checked params script other is')

pub one-script-fault : OneFault
one-script-fault params script one other here there is is' =
    let same = ap (fault-or (one, here)) (sym (fault-checked params script one here is) ∙ fault-checked params script other there is') in
    (ap (λ (fault : CheckKind × ℕ). fault.0) same, ap (λ (fault : CheckKind × ℕ). fault.1) same)

pub never-both-in-scripts : NeverBoth
never-both-in-scripts params script tree kind line is wrong =
    let tree-computed = accepted-checked params script tree is in
    let fault-computed = fault-checked params script kind line wrong in
    absurd (cc)

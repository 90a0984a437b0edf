use Rattle.el_check.proofs.Computed.{tree-is-computed, fault-is-computed, never-memory}
use Rattle.el_check.proofs.laws.what_is_computed.Goals as goal

pub returns-clause-tree : goal.returns-clause-tree
returns-clause-tree c = tree-is-computed

pub returns-clause-fault : goal.returns-clause-fault
returns-clause-fault c = fault-is-computed

pub returns-clause-memory : goal.returns-clause-memory
returns-clause-memory c = never-memory

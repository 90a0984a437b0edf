use Rattle.el_blocks.proofs.Found.{spelling-computed, fault-computed}
use Rattle.el_blocks.proofs.laws.computed.Goals as goal

pub returns-clause-spelling : goal.returns-clause-spelling
returns-clause-spelling c = spelling-computed

pub returns-clause-fault : goal.returns-clause-fault
returns-clause-fault c = fault-computed

use Rattle.el_blocks.proofs.Runs.{one-fault}
use Rattle.el_blocks.proofs.laws.one_fault.Goals as goal

pub returns : goal.returns
returns c = one-fault

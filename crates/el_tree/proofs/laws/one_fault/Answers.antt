use Rattle.el_tree.proofs.Answered.{one-fault}
use Rattle.el_tree.proofs.laws.one_fault.Goals as goal

pub returns : goal.returns
returns c = one-fault

use Rattle.el_check.proofs.Unique.{one-script-fault}
use Rattle.el_check.proofs.laws.one_fault.Goals as goal

pub returns : goal.returns
returns c = one-script-fault

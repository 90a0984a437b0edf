use Rattle.el_upgrade.proofs.Accepted.{accepted-upgraded}
use Rattle.el_upgrade.proofs.laws.upgrade_is_accepted.Goals as goal

pub returns : goal.returns
returns c = accepted-upgraded

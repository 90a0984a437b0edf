use Rattle.el_upgrade.proofs.Layouts.{reads-back}
use Rattle.el_upgrade.proofs.laws.upgrade_reads_back.Goals as goal

pub returns : goal.returns
returns c = reads-back

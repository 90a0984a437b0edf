use Rattle.el_recorded.proofs.Recorded.{answered-yes}
use Rattle.el_recorded.proofs.laws.recorded_scripts_are_answered_yes.Goals as goal

pub returns : goal.returns
returns c = answered-yes

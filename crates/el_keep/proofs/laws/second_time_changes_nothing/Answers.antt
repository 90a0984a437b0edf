use Rattle.el_keep.proofs.Texts.{second-time}
use Rattle.el_keep.proofs.laws.second_time_changes_nothing.Goals as goal

pub returns : goal.returns
returns c = second-time

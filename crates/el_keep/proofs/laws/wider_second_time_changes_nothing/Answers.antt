use Rattle.el_keep.proofs.WideLaws.{wider-again}
use Rattle.el_keep.proofs.laws.wider_second_time_changes_nothing.Goals as goal

pub returns : goal.returns
returns c = wider-again

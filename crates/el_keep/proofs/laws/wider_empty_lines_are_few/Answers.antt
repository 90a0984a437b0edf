use Rattle.el_keep.proofs.WideLaws.{wider-few}
use Rattle.el_keep.proofs.laws.wider_empty_lines_are_few.Goals as goal

pub returns : goal.returns
returns c = wider-few

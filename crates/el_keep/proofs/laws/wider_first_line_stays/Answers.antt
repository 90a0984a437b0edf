use Rattle.el_keep.proofs.WideLaws.{wider-first}
use Rattle.el_keep.proofs.laws.wider_first_line_stays.Goals as goal

pub returns : goal.returns
returns c = wider-first

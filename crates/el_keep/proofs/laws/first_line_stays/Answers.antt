use Rattle.el_keep.proofs.Texts.{first-line}
use Rattle.el_keep.proofs.laws.first_line_stays.Goals as goal

pub returns : goal.returns
returns c = first-line

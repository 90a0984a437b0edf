use Rattle.el_keep.proofs.Texts.{few-breaks}
use Rattle.el_keep.proofs.laws.empty_lines_are_few.Goals as goal

pub returns : goal.returns
returns c = few-breaks

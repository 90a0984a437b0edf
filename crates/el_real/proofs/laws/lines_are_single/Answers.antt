use Rattle.el_real.proofs.Lines.{kept-line, unstarted-line, hinted-line}
use Rattle.el_real.proofs.laws.lines_are_single.Goals as goal

pub returns : goal.returns
returns c = record { reasons = kept-line; starts = unstarted-line; hints = hinted-line }

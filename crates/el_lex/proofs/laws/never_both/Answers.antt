use Rattle.el_lex.proofs.Stops.{never-both}
use Rattle.el_lex.proofs.laws.never_both.Goals as goal

pub returns : goal.returns
returns c = never-both

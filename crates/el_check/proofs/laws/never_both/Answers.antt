use Rattle.el_check.proofs.Unique.{never-both-in-scripts}
use Rattle.el_check.proofs.laws.never_both.Goals as goal

pub returns : goal.returns
returns c = never-both-in-scripts

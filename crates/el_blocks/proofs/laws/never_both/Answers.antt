use Rattle.el_blocks.proofs.Runs.{never-both}
use Rattle.el_blocks.proofs.laws.never_both.Goals as goal

pub returns : goal.returns
returns c = never-both

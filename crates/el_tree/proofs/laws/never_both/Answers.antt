use Rattle.el_tree.proofs.Answered.{never-both-in-trees, never-both}
use Rattle.el_tree.proofs.laws.never_both.Goals as goal

pub returns-clause-formed : goal.returns-clause-formed
returns-clause-formed c = never-both-in-trees

pub returns-clause-accepted : goal.returns-clause-accepted
returns-clause-accepted c = never-both

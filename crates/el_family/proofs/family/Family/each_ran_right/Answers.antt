use Rattle.std.proofs.Common.{subst}
use Rattle.el_family.specs.Families.{AllRanRight}
use Rattle.el_family.proofs.family.Family.each_ran_right.Goals as goal

pub returns : goal.returns
returns c = subst AllRanRight c.self.view_is c.self.invariant.right

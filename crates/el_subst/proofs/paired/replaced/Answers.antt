use Rattle.std.proofs.Common.{refl}
use Rattle.el_subst.proofs.paired.replaced.Goals as goal

pub returns-in-None : goal.returns-in-None
returns-in-None c = rw c.in-None.is refl

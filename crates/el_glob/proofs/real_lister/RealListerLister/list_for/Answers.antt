use Rattle.std.proofs.Common.{refl}
use Rattle.el_glob.specs.Listers.{extended}
use Rattle.el_glob.proofs.Lists.{lists_itself}
use Rattle.el_glob.proofs.real_lister.RealListerLister.list_for.Goals as goal

pub returns : goal.returns
unfolding extended
returns g c = lists_itself _ _ _ _ _ _ refl c.answer.ensures.cause c.answer.ensures.names

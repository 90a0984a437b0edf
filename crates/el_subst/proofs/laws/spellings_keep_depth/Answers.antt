use Rattle.el_subst.proofs.Spelled.{values_spelled}
use Rattle.el_subst.proofs.laws.spellings_keep_depth.Goals as goal

pub returns : goal.returns
returns c = values_spelled

use Rattle.el_subst.proofs.Spelled.{scope_spelled}
use Rattle.el_subst.proofs.laws.scopes_keep_depth.Goals as goal

pub returns : goal.returns
returns c = scope_spelled

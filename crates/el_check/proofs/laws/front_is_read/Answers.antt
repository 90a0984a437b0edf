use Rattle.el_check.proofs.Fronts.{front_spelled}
use Rattle.el_check.proofs.laws.front_is_read.Goals as goal

pub returns : goal.returns
returns c = λ strict program options places rest read scope members. front_spelled program options places rest read strict scope members

use Rattle.el_transform.proofs.Whole.{transformed-listed}
use Rattle.el_transform.proofs.laws.computed_by_list.Goals as goal

pub returns : goal.returns
returns c = transformed-listed

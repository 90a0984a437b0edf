use Rattle.el_transform.proofs.Whole.{transformed-bad}
use Rattle.el_transform.proofs.laws.computed_is_bad.Goals as goal

pub returns : goal.returns
returns c = transformed-bad

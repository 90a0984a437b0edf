use Rattle.el_transform.proofs.Whole.{transformed-words}
use Rattle.el_transform.proofs.laws.computed_is_transformed.Goals as goal

pub returns : goal.returns
returns c = transformed-words

use Rattle.el_transform.proofs.Filled.{bad_is_no_text}
use Rattle.el_transform.proofs.laws.bad_is_no_text.Goals as goal

pub returns : goal.returns
returns c = bad_is_no_text

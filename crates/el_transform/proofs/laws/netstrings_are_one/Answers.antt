use Rattle.el_transform.proofs.Filled.{words_are_one}
use Rattle.el_transform.proofs.laws.netstrings_are_one.Goals as goal

pub returns : goal.returns
returns c = words_are_one

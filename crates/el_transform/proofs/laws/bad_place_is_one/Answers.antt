use Rattle.el_transform.proofs.Filled.{place_is_one}
use Rattle.el_transform.proofs.laws.bad_place_is_one.Goals as goal

pub returns : goal.returns
returns c = place_is_one

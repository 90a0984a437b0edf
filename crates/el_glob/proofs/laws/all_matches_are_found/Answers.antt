use Rattle.el_glob.proofs.Reached.{matched}
use Rattle.el_glob.proofs.laws.all_matches_are_found.Goals as goal

pub returns : goal.returns
returns c = λ dir pattern answers paths good is path. matched dir pattern answers paths good is path

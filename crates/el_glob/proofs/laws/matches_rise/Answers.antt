use Rattle.el_glob.specs.Listings.{start_path}
use Rattle.el_glob.proofs.Order.{rises-globbed}
use Rattle.el_glob.proofs.laws.matches_rise.Goals as goal

pub returns : goal.returns
returns c = λ dir pattern answers paths is. rises-globbed dir pattern.parts (start_path pattern.rooted) answers paths is

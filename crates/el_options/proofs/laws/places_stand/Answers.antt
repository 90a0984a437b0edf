use Rattle.el_options.proofs.Places.{values-stand, rest-stands}
use Rattle.el_options.proofs.laws.places_stand.Goals as goal

pub returns-clause-values : goal.returns-clause-values
returns-clause-values c = values-stand

pub returns-clause-rest : goal.returns-clause-rest
returns-clause-rest c = rest-stands

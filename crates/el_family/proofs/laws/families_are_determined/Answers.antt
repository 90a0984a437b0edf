use Rattle.el_family.proofs.OneFamily.{one_whole, whole_stays}
use Rattle.el_family.proofs.laws.families_are_determined.Goals as goal

pub returns-clause-one : goal.returns-clause-one
returns-clause-one c = one_whole

pub returns-clause-within : goal.returns-clause-within
returns-clause-within c = whole_stays

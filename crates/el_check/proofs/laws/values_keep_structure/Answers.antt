use Rattle.el_check.proofs.Kept.{values-keep, arguments-keep, shifted-arguments-keep}
use Rattle.el_check.proofs.laws.values_keep_structure.Goals as goal

pub returns-clause-values : goal.returns-clause-values
returns-clause-values c = values-keep

pub returns-clause-arguments : goal.returns-clause-arguments
returns-clause-arguments c = arguments-keep

pub returns-clause-shifted : goal.returns-clause-shifted
returns-clause-shifted c = shifted-arguments-keep

use Rattle.std.proofs.Common.{drop, map as mapped}
use Rattle.std.specs.FinMap as map
use Rattle.el_env.specs.Variable.{pair_of}
use Rattle.el_record.specs.Recordable.{ArePairTexts}
use Rattle.el_record.proofs.fits.variables_fit.Given as goal

-- where the variables to come can be written, all can
abbrev pub invariant-loop-variable : goal.invariant-loop-variable
invariant-loop-variable l = ArePairTexts (mapped pair_of (drop l.variable-index l.variable-items)) → ArePairTexts (map.entries l.env)

use Rattle.std.proofs.Common.{◌≡◌, take, map as mapped}
use Rattle.el_env.specs.Variable.{pair_of}
use Rattle.el_env.proofs.env.Env.names.Given as goal

abbrev pub invariant-loop-variable : goal.invariant-loop-variable
invariant-loop-variable l = l.names ≡ mapped (λ e. e.0) (mapped pair_of (take l.variable-index l.variable-items))

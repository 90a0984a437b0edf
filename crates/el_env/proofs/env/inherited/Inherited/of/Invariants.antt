use Rattle.std.proofs.Common.{take}
use Rattle.el_env.proofs.Rising.{AreRead}
use Rattle.el_env.proofs.env.inherited.Inherited.of.Given as goal

abbrev pub invariant-loop-variable : goal.invariant-loop-variable
invariant-loop-variable l = AreRead (take l.variable-index l.fn.variables) l.inherited

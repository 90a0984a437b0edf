use Rattle.std.proofs.Common.{take}
use Rattle.el_real.proofs.Entries.{AreRead}
use Rattle.el_real.proofs.variables.variables_of.Given as goal

abbrev pub invariant-loop-place : goal.invariant-loop-place
invariant-loop-place l = AreRead (take l.place l.entries) l.variables.items

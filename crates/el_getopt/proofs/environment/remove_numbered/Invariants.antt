use Rattle.el_vars.proofs.Removals.{IsRemoving}
use Rattle.el_getopt.proofs.environment.remove_numbered.Given as goal

abbrev pub invariant-loop-place : goal.invariant-loop-place
invariant-loop-place l = IsRemoving l.count l.last l.place l.fn.env l.env

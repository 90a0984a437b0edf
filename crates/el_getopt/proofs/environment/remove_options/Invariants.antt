use Rattle.el_getopt.proofs.Removing.{IsRemoving}
use Rattle.el_getopt.proofs.environment.remove_options.Given as goal

abbrev pub invariant-loop-name : goal.invariant-loop-name
invariant-loop-name l = IsRemoving l.fn.env l.env l.name-iterator

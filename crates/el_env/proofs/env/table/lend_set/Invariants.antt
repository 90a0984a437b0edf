use Rattle.std.proofs.Common.{map as mapped}
use Rattle.el_env.specs.Variable.{pair_of}
use Rattle.el_env.proofs.Lent.{IsLending}
use Rattle.el_env.proofs.env.table.lend_set.Given as goal

abbrev pub invariant-loop-name : goal.invariant-loop-name
invariant-loop-name l = IsLending (mapped pair_of l.fn.variables.items) l.initial.name-iterator l.name-iterator l.variables.items

use Rattle.std.proofs.Common.{◌≡◌, ◌++◌, drop, map as mapped}
use Rattle.el_env.specs.Variable.{pair_of}
use Rattle.el_real.specs.Commands.{entry_of, entries_of, ended}
use Rattle.el_real.proofs.command.entries_of.Given as goal

-- what is put, and what is to be put
abbrev pub invariant-loop-variable : goal.invariant-loop-variable
invariant-loop-variable l = l.texts.items ++ ended (mapped entry_of (mapped pair_of (drop l.variable-index l.variable-items))) ≡ ended (entries_of l.env)

use Rattle.el_env.proofs.Arguments.{IsSetting}
use Rattle.el_env.proofs.env.Env.set_positionals.Given as goal

abbrev pub invariant-loop-arg : goal.invariant-loop-arg
invariant-loop-arg l = IsSetting l.args l.arg-iterator l.number l.fn.self l.initial.self l.self

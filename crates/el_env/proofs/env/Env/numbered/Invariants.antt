use Rattle.el_env.proofs.Arguments.{IsReading}
use Rattle.el_env.proofs.env.Env.numbered.Given as goal

abbrev pub invariant-loop-place : goal.invariant-loop-place
invariant-loop-place l = IsReading l.count l.place l.self l.args

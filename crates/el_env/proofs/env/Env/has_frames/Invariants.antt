use Rattle.std.proofs.Common.{drop, map as mapped}
use Rattle.el_env.specs.Variable.{pair_of}
use Rattle.el_env.proofs.NoFrames.{IsLooking}
use Rattle.el_env.proofs.env.Env.has_frames.Given as goal

abbrev pub invariant-loop-variable : goal.invariant-loop-variable
invariant-loop-variable l = IsLooking (mapped pair_of l.variable-items) (mapped pair_of (drop l.variable-index l.variable-items))

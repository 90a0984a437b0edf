use Rattle.std.proofs.Common.{subst}
use Rattle.el_trace.specs.Replays.{Replaying, Retraces}
use Rattle.el_trace.proofs.Replaying.{goes_retraced}
use Rattle.el_trace.proofs.replay.Replay.into_log.Goals as goal

pub returns-clause-retraces : goal.returns-clause-retraces
returns-clause-retraces c = subst (λ (replay : Replaying). Retraces replay.recorded replay.log) c.self.view_is (goes_retraced _ _ _ c.self.invariant.goes_on)

use Rattle.el_room.proofs.Vocabulary.{PipeEnds, is_failed, pipe, no_call, one_call, counts}
use Rattle.std.proofs.Common.{ap, true}
use Rattle.el_trace.specs.Replays.{Replaying}
use Rattle.el_trace.proofs.Replies.{told_fits, not_memory, failed_counts}
use Rattle.el_trace.proofs.replay.ReplayWorld.pipe.Goals as goal

pub returns-in_err-tell-clause-log : goal.returns-in_err-tell-clause-log
returns-in_err-tell-clause-log c = no_call _ _ _ _ c.from_residual.ensures.1 (ap (λ (r : Replaying). r.log) c.in_err-tell.ensures.err)

pub tell-requires-clause-fits : goal.tell-requires-clause-fits
tell-requires-clause-fits c = told_fits c.args.self.now.left pipe _ c.pipe_answer-found.result c.or_failed-answer.result c.is_some.result c.due.ensures c.pipe_answer-found.ensures c.or_failed-answer.ensures c.is_some.ensures

pub returns-clause-log : goal.returns-clause-log
returns-clause-log c =
    one_call _ _ _ _ (not_memory (λ (ends : PipeEnds). true) c.or_failed-answer.result c.tell.ensures.lawful) (ap (λ (r : Replaying). r.log) c.in_ok-tell.ensures.ok)

pub returns-clause-cause : goal.returns-clause-cause
returns-clause-cause c =
    counts c.or_failed-answer.result _ (is_failed c.or_failed-answer.result) (ap (λ (r : Replaying). r.faults) c.in_ok-tell.ensures.ok) (failed_counts c.or_failed-answer.result)

pub returns-clause-handles : goal.returns-clause-handles
returns-clause-handles c = c.in_ok-tell.ensures.gave

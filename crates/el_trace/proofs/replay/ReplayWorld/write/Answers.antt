use Rattle.el_room.proofs.Vocabulary.{is_failed, write, no_call, one_call, counts}
use Rattle.std.proofs.Common.{ap, refl, true}
use Rattle.el_trace.specs.Replays.{Replaying}
use Rattle.el_trace.proofs.Replies.{told_fits, not_memory, failed_counts, kept}
use Rattle.el_trace.proofs.replay.ReplayWorld.write.Goals as goal

pub returns-in_err-from_slice-clause-log : goal.returns-in_err-from_slice-clause-log
returns-in_err-from_slice-clause-log c = no_call _ _ _ _ c.from_residual.ensures.1 refl

pub returns-in_err-tell-clause-log : goal.returns-in_err-tell-clause-log
returns-in_err-tell-clause-log c = no_call _ _ _ _ c.from_residual-in_err-tell.ensures.1 (ap (λ (r : Replaying). r.log) c.in_err-tell.ensures.err)

pub tell-requires-clause-fits : goal.tell-requires-clause-fits
tell-requires-clause-fits c = rw (c.in_ok-from_slice.ensures) (told_fits c.args.self.now.left (write c.args.handle c.args.bytes.now) _ c.write_answer-found.result c.or_failed-answer.result c.is_some.result c.due.ensures c.write_answer-found.ensures c.or_failed-answer.ensures c.is_some.ensures)

pub returns-clause-log : goal.returns-clause-log
returns-clause-log c =
    one_call _ _ _ _ (not_memory (λ (done : Unit {0}). true) c.or_failed-answer.result c.tell.ensures.lawful) (ap (λ (r : Replaying). r.log) (rw (c.in_ok-from_slice.ensures) at c.in_ok-tell.ensures.ok))

pub returns-clause-cause : goal.returns-clause-cause
returns-clause-cause c =
    counts c.or_failed-answer.result _ (is_failed c.or_failed-answer.result) (ap (λ (r : Replaying). r.faults) c.in_ok-tell.ensures.ok) (failed_counts c.or_failed-answer.result)

pub returns-clause-handles : goal.returns-clause-handles
returns-clause-handles c = kept c.args.self.now c.tell.new.self _ c.is_some.result c.in_ok-tell.ensures.ok refl c.in_ok-tell.ensures.gave

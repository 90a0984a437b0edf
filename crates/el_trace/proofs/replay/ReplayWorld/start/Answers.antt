use Rattle.el_room.proofs.Vocabulary.{is_start_failed, start, counts}
use Rattle.std.proofs.Common.{ap, refl}
use Rattle.el_world.proofs.Told.{no_start, one_start}
use Rattle.el_trace.specs.Replays.{Replaying}
use Rattle.el_trace.proofs.Replies.{told_fits, not_start_memory, start_failed_counts, kept}
use Rattle.el_trace.proofs.replay.ReplayWorld.start.Goals as goal

pub returns-in_err-found-clause-log : goal.returns-in_err-found-clause-log
returns-in_err-found-clause-log c = no_start _ _ _ _ c.from_residual.ensures.1 refl

pub returns-in_err-copy-clause-log : goal.returns-in_err-copy-clause-log
returns-in_err-copy-clause-log c = no_start _ _ _ _ c.from_residual-in_err-copy.ensures.1 refl

pub returns-in_err-copy-2-clause-log : goal.returns-in_err-copy-2-clause-log
returns-in_err-copy-2-clause-log c = no_start _ _ _ _ c.from_residual-in_err-copy-2.ensures.1 refl

pub returns-in_err-copy-3-clause-log : goal.returns-in_err-copy-3-clause-log
returns-in_err-copy-3-clause-log c = no_start _ _ _ _ c.from_residual-in_err-copy-3.ensures.1 refl

pub returns-in_err-tell-clause-log : goal.returns-in_err-tell-clause-log
returns-in_err-tell-clause-log c = no_start _ _ _ _ c.from_residual-in_err-tell.ensures.1 (ap (λ (r : Replaying). r.log) c.in_err-tell.ensures.err)

pub tell-requires-clause-fits : goal.tell-requires-clause-fits
tell-requires-clause-fits c = rw (c.in_ok-copy.ensures, c.in_ok-copy-2.ensures, c.in_ok-copy-3.ensures) (told_fits c.args.self.now.left (start c.args.words.now c.args.env.now c.args.dir.now c.args.ends.now) _ c.in_ok-found.found c.start_or_failed-answer.result c.is_some.result c.due.ensures c.in_ok-found.ensures c.start_or_failed-answer.ensures c.is_some.ensures)

pub returns-clause-log : goal.returns-clause-log
returns-clause-log c =
    one_start _ _ _ _ (not_start_memory c.start_or_failed-answer.result c.tell.ensures.lawful) (ap (λ (r : Replaying). r.log) (rw (c.in_ok-copy.ensures, c.in_ok-copy-2.ensures, c.in_ok-copy-3.ensures) at c.in_ok-tell.ensures.ok))

pub returns-clause-cause : goal.returns-clause-cause
returns-clause-cause c =
    counts c.start_or_failed-answer.result _ (is_start_failed c.start_or_failed-answer.result) (ap (λ (r : Replaying). r.faults) c.in_ok-tell.ensures.ok) (start_failed_counts c.start_or_failed-answer.result)

pub returns-clause-handles : goal.returns-clause-handles
returns-clause-handles c = kept c.args.self.now c.tell.new.self _ c.is_some.result c.in_ok-tell.ensures.ok refl c.in_ok-tell.ensures.gave

use Rattle.el_room.proofs.Vocabulary.{option_copied, is_failed, is_piece, read, none_is_lost, no_call, one_call, counts}
use Rattle.std.proofs.Common.{◌∙◌, ap, refl, sym}
use Rattle.el_world.specs.declared.event.Event.TheVariants.{Read}
use Rattle.el_trace.specs.Replays.{Replaying}
use Rattle.el_trace.proofs.Replies.{told_fits, copied_some, not_memory, failed_counts, kept, lawful_piece}
use Rattle.el_trace.proofs.replay.ReplayWorld.read.Goals as goal

pub returns-in_err-answer-clause-log : goal.returns-in_err-answer-clause-log
returns-in_err-answer-clause-log c = none_is_lost (Read c.args.handle) _ (no_call _ _ _ _ c.from_residual.ensures.1 refl)

pub returns-in_err-copy_of_piece-clause-log : goal.returns-in_err-copy_of_piece-clause-log
returns-in_err-copy_of_piece-clause-log c = none_is_lost (Read c.args.handle) _ (no_call _ _ _ _ c.from_residual-in_err-copy_of_piece.ensures.1 refl)

pub returns-in_err-tell-clause-log : goal.returns-in_err-tell-clause-log
returns-in_err-tell-clause-log c = none_is_lost (Read c.args.handle) _ (no_call _ _ _ _ c.from_residual-in_err-tell.ensures.1 (ap (λ (r : Replaying). r.log) c.in_err-tell.ensures.err))

pub tell-requires-clause-fits : goal.tell-requires-clause-fits
tell-requires-clause-fits c = told_fits c.args.self.now.left (read c.args.handle) _ (option_copied c.read_answer-found.result) c.in_ok-copy_of_piece.field-0 c.is_some.result c.due.ensures c.read_answer-found.ensures c.in_ok-copy_of_piece.ensures (c.is_some.ensures ∙ sym (copied_some c.read_answer-found.result))

pub returns-clause-log : goal.returns-clause-log
returns-clause-log c =
    let same = c.in_ok-copy_of_piece.ensures ∙ sym c.in_ok-answer.ensures in
    none_is_lost (Read c.args.handle) _ (one_call _ _ _ _ (not_memory is_piece c.in_ok-answer.answer (rw same at c.tell.ensures.lawful)) (ap (λ (r : Replaying). r.log) (rw (same) at c.in_ok-tell.ensures.ok)))

pub returns-clause-cause : goal.returns-clause-cause
returns-clause-cause c =
    let same = c.in_ok-copy_of_piece.ensures ∙ sym c.in_ok-answer.ensures in
    counts c.in_ok-answer.answer _ (is_failed c.in_ok-answer.answer) (ap (λ (r : Replaying). r.faults) (rw same at c.in_ok-tell.ensures.ok)) (failed_counts c.in_ok-answer.answer)

pub returns-clause-handles : goal.returns-clause-handles
returns-clause-handles c = kept c.args.self.now c.tell.new.self _ c.is_some.result c.in_ok-tell.ensures.ok refl c.in_ok-tell.ensures.gave

pub returns-clause-piece : goal.returns-clause-piece
returns-clause-piece c =
    let same = c.in_ok-copy_of_piece.ensures ∙ sym c.in_ok-answer.ensures in
    lawful_piece c.in_ok-answer.answer (rw same at c.tell.ensures.lawful)

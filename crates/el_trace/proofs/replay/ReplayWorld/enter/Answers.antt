use Rattle.el_room.proofs.Vocabulary.{option_copied, Enter, is_failed, enter, none_is_lost, no_call, one_call, counts}
use Rattle.std.proofs.Common.{◌∙◌, ap, refl, sym, true, List, ℕ}
use Rattle.el_trace.specs.Replays.{Replaying}
use Rattle.el_trace.proofs.Replies.{told_fits, copied_some, not_memory, failed_counts, kept}
use Rattle.el_trace.proofs.replay.ReplayWorld.enter.Goals as goal

pub returns-in_err-answer-clause-log : goal.returns-in_err-answer-clause-log
returns-in_err-answer-clause-log c = none_is_lost (Enter c.args.dir.now c.args.path.now) _ (no_call _ _ _ _ c.from_residual.ensures.1 refl)

pub returns-in_err-copy-clause-log : goal.returns-in_err-copy-clause-log
returns-in_err-copy-clause-log c = none_is_lost (Enter c.args.dir.now c.args.path.now) _ (no_call _ _ _ _ c.from_residual-in_err-copy.ensures.1 refl)

pub returns-in_err-copy-2-clause-log : goal.returns-in_err-copy-2-clause-log
returns-in_err-copy-2-clause-log c = none_is_lost (Enter c.args.dir.now c.args.path.now) _ (no_call _ _ _ _ c.from_residual-in_err-copy-2.ensures.1 refl)

pub returns-in_err-copy_of_dir-clause-log : goal.returns-in_err-copy_of_dir-clause-log
returns-in_err-copy_of_dir-clause-log c = none_is_lost (Enter c.args.dir.now c.args.path.now) _ (no_call _ _ _ _ c.from_residual-in_err-copy_of_dir.ensures.1 refl)

pub returns-in_err-tell-clause-log : goal.returns-in_err-tell-clause-log
returns-in_err-tell-clause-log c = none_is_lost (Enter c.args.dir.now c.args.path.now) _ (no_call _ _ _ _ c.from_residual-in_err-tell.ensures.1 (ap (λ (r : Replaying). r.log) c.in_err-tell.ensures.err))

pub tell-requires-clause-fits : goal.tell-requires-clause-fits
tell-requires-clause-fits c = rw (c.in_ok-copy.ensures, c.in_ok-copy-2.ensures) (told_fits c.args.self.now.left (enter c.args.dir.now c.args.path.now) _ (option_copied c.enter_answer-found.result) c.in_ok-copy_of_dir.field-0 c.is_some.result c.due.ensures c.enter_answer-found.ensures c.in_ok-copy_of_dir.ensures (c.is_some.ensures ∙ sym (copied_some c.enter_answer-found.result)))

pub returns-clause-log : goal.returns-clause-log
returns-clause-log c =
    let same = c.in_ok-copy_of_dir.ensures ∙ sym c.in_ok-answer.ensures in
    none_is_lost (Enter c.args.dir.now c.args.path.now) _ (one_call _ _ _ _ (not_memory (λ (dir : List ℕ). true) c.in_ok-answer.answer (rw same at c.tell.ensures.lawful)) (ap (λ (r : Replaying). r.log) (rw (c.in_ok-copy.ensures, c.in_ok-copy-2.ensures, same) at c.in_ok-tell.ensures.ok)))

pub returns-clause-cause : goal.returns-clause-cause
returns-clause-cause c =
    let same = c.in_ok-copy_of_dir.ensures ∙ sym c.in_ok-answer.ensures in
    counts c.in_ok-answer.answer _ (is_failed c.in_ok-answer.answer) (ap (λ (r : Replaying). r.faults) (rw same at c.in_ok-tell.ensures.ok)) (failed_counts c.in_ok-answer.answer)

pub returns-clause-handles : goal.returns-clause-handles
returns-clause-handles c = kept c.args.self.now c.tell.new.self _ c.is_some.result c.in_ok-tell.ensures.ok refl c.in_ok-tell.ensures.gave

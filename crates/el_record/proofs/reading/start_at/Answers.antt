use Rattle.std.proofs.Common.{Err, ap, ◌∙◌, refl}
use Rattle.std.proofs.lemmas.Result.{err_from_is_err_and}
use Rattle.el_record.specs.TraceReading.{start_at}
use Rattle.el_record.proofs.FieldLaws.{read_then}
use Rattle.el_record.proofs.Read.{then_read, fails}
use Rattle.el_record.proofs.reading.start_at.Goals as goal

pub returns-in_err-words : goal.returns-in_err-words
unfolding start_at
returns-in_err-words c =
    let p = err_from_is_err_and c.from_residual.result c.from_residual.ensures.1 in
    fails _ _ c.in_err-words.field-0.0 _ _ _ c.in_err-words.ensures (p.1 ∙ ap Err p.2)

pub returns-in_err-env : goal.returns-in_err-env
unfolding start_at
returns-in_err-env c =
    let p = err_from_is_err_and c.from_residual-in_err-env.result c.from_residual-in_err-env.ensures.1 in
    then_read _ _ _ _ _ _ c.in_ok-words.ensures
    (fails _ _ c.in_err-env.field-0.0 _ _ _ c.in_err-env.ensures (p.1 ∙ ap Err p.2))

pub returns-in_err-dir : goal.returns-in_err-dir
unfolding start_at
returns-in_err-dir c =
    let p = err_from_is_err_and c.from_residual-in_err-dir.result c.from_residual-in_err-dir.ensures.1 in
    then_read _ _ _ _ _ _ c.in_ok-words.ensures
    (then_read _ _ _ _ _ _ c.in_ok-env.ensures
    (fails _ _ c.in_err-dir.field-0.0 _ _ _ c.in_err-dir.ensures (p.1 ∙ ap Err p.2)))

pub returns-in_err-input : goal.returns-in_err-input
unfolding start_at
returns-in_err-input c =
    let p = err_from_is_err_and c.from_residual-in_err-input.result c.from_residual-in_err-input.ensures.1 in
    then_read _ _ _ _ _ _ c.in_ok-words.ensures
    (then_read _ _ _ _ _ _ c.in_ok-env.ensures
    (then_read _ _ _ _ _ _ c.in_ok-dir.ensures
    (fails _ _ c.in_err-input.field-0.0 _ _ _ c.in_err-input.ensures (p.1 ∙ ap Err p.2))))

pub returns-in_err-output : goal.returns-in_err-output
unfolding start_at
returns-in_err-output c =
    let p = err_from_is_err_and c.from_residual-in_err-output.result c.from_residual-in_err-output.ensures.1 in
    then_read _ _ _ _ _ _ c.in_ok-words.ensures
    (then_read _ _ _ _ _ _ c.in_ok-env.ensures
    (then_read _ _ _ _ _ _ c.in_ok-dir.ensures
    (then_read _ _ _ _ _ _ c.in_ok-input.ensures
    (fails _ _ c.in_err-output.field-0.0 _ _ _ c.in_err-output.ensures (p.1 ∙ ap Err p.2)))))

pub returns-in_err-error : goal.returns-in_err-error
unfolding start_at
returns-in_err-error c =
    let p = err_from_is_err_and c.from_residual-in_err-error.result c.from_residual-in_err-error.ensures.1 in
    then_read _ _ _ _ _ _ c.in_ok-words.ensures
    (then_read _ _ _ _ _ _ c.in_ok-env.ensures
    (then_read _ _ _ _ _ _ c.in_ok-dir.ensures
    (then_read _ _ _ _ _ _ c.in_ok-input.ensures
    (then_read _ _ _ _ _ _ c.in_ok-output.ensures
    (fails _ _ c.in_err-error.field-0.0 _ _ _ c.in_err-error.ensures (p.1 ∙ ap Err p.2))))))

pub returns-in_err-answer : goal.returns-in_err-answer
unfolding start_at
returns-in_err-answer c =
    let p = err_from_is_err_and c.from_residual-in_err-answer.result c.from_residual-in_err-answer.ensures.1 in
    then_read _ _ _ _ _ _ c.in_ok-words.ensures
    (then_read _ _ _ _ _ _ c.in_ok-env.ensures
    (then_read _ _ _ _ _ _ c.in_ok-dir.ensures
    (then_read _ _ _ _ _ _ c.in_ok-input.ensures
    (then_read _ _ _ _ _ _ c.in_ok-output.ensures
    (then_read _ _ _ _ _ _ c.in_ok-error.ensures
    (fails _ _ c.in_err-answer.field-0.0 _ _ _ c.in_err-answer.ensures (p.1 ∙ ap Err p.2)))))))

pub returns : goal.returns
unfolding start_at
returns c = read_then _ _ _ _ _ c.in_ok-words.ensures
    (read_then _ _ _ _ _ c.in_ok-env.ensures
    (read_then _ _ _ _ _ c.in_ok-dir.ensures
    (read_then _ _ _ _ _ c.in_ok-input.ensures
    (read_then _ _ _ _ _ c.in_ok-output.ensures
    (read_then _ _ _ _ _ c.in_ok-error.ensures
    (read_then _ _ _ _ _ c.in_ok-answer.ensures refl))))))

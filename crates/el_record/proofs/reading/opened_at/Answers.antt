use Rattle.std.proofs.Common.{Err, ap, ◌∙◌, refl}
use Rattle.std.proofs.lemmas.Result.{err_from_is_err_and}
use Rattle.el_record.specs.TraceReading.{opened_at}
use Rattle.el_record.proofs.FieldLaws.{read_then}
use Rattle.el_record.proofs.Read.{then_read, fails}
use Rattle.el_record.proofs.reading.opened_at.Goals as goal

pub returns-in_err-dir : goal.returns-in_err-dir
unfolding opened_at
returns-in_err-dir c =
    let p = err_from_is_err_and c.from_residual.result c.from_residual.ensures.1 in
    fails _ _ c.in_err-dir.field-0.0 _ _ _ c.in_err-dir.ensures (p.1 ∙ ap Err p.2)

pub returns-in_err-path : goal.returns-in_err-path
unfolding opened_at
returns-in_err-path c =
    let p = err_from_is_err_and c.from_residual-in_err-path.result c.from_residual-in_err-path.ensures.1 in
    then_read _ _ _ _ _ _ c.in_ok-dir.ensures
    (fails _ _ c.in_err-path.field-0.0 _ _ _ c.in_err-path.ensures (p.1 ∙ ap Err p.2))

pub returns-in_err-mode : goal.returns-in_err-mode
unfolding opened_at
returns-in_err-mode c =
    let p = err_from_is_err_and c.from_residual-in_err-mode.result c.from_residual-in_err-mode.ensures.1 in
    then_read _ _ _ _ _ _ c.in_ok-dir.ensures
    (then_read _ _ _ _ _ _ c.in_ok-path.ensures
    (fails _ _ c.in_err-mode.field-0.0 _ _ _ c.in_err-mode.ensures (p.1 ∙ ap Err p.2)))

pub returns-in_err-answer : goal.returns-in_err-answer
unfolding opened_at
returns-in_err-answer c =
    let p = err_from_is_err_and c.from_residual-in_err-answer.result c.from_residual-in_err-answer.ensures.1 in
    then_read _ _ _ _ _ _ c.in_ok-dir.ensures
    (then_read _ _ _ _ _ _ c.in_ok-path.ensures
    (then_read _ _ _ _ _ _ c.in_ok-mode.ensures
    (fails _ _ c.in_err-answer.field-0.0 _ _ _ c.in_err-answer.ensures (p.1 ∙ ap Err p.2))))

pub returns : goal.returns
unfolding opened_at
returns c = read_then _ _ _ _ _ c.in_ok-dir.ensures
    (read_then _ _ _ _ _ c.in_ok-path.ensures
    (read_then _ _ _ _ _ c.in_ok-mode.ensures
    (read_then _ _ _ _ _ c.in_ok-answer.ensures refl)))

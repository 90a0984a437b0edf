use Rattle.std.proofs.Common.{Err, ap, ◌∙◌, refl}
use Rattle.std.proofs.lemmas.Result.{err_from_is_err_and}
use Rattle.el_record.specs.TraceReading.{wait_at}
use Rattle.el_record.proofs.FieldLaws.{read_then}
use Rattle.el_record.proofs.Read.{then_read, fails}
use Rattle.el_record.proofs.reading.wait_at.Goals as goal

pub returns-in_err-pid : goal.returns-in_err-pid
unfolding wait_at
returns-in_err-pid c =
    let p = err_from_is_err_and c.from_residual.result c.from_residual.ensures.1 in
    fails _ _ c.in_err-pid.field-0.0 _ _ _ c.in_err-pid.ensures (p.1 ∙ ap Err p.2)

pub returns-in_err-answer : goal.returns-in_err-answer
unfolding wait_at
returns-in_err-answer c =
    let p = err_from_is_err_and c.from_residual-in_err-answer.result c.from_residual-in_err-answer.ensures.1 in
    then_read _ _ _ _ _ _ c.in_ok-pid.ensures
    (fails _ _ c.in_err-answer.field-0.0 _ _ _ c.in_err-answer.ensures (p.1 ∙ ap Err p.2))

pub returns : goal.returns
unfolding wait_at
returns c = read_then _ _ _ _ _ c.in_ok-pid.ensures
    (read_then _ _ _ _ _ c.in_ok-answer.ensures refl)

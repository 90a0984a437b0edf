use Rattle.std.proofs.Common.{Err, ap, ◌∙◌, refl}
use Rattle.std.proofs.lemmas.Result.{err_from_is_err_and}
use Rattle.el_record.specs.TraceReading.{pipe_at}
use Rattle.el_record.proofs.FieldLaws.{read_then}
use Rattle.el_record.proofs.Read.{fails}
use Rattle.el_record.proofs.reading.pipe_at.Goals as goal

pub returns-in_err-answer : goal.returns-in_err-answer
unfolding pipe_at
returns-in_err-answer c =
    let p = err_from_is_err_and c.from_residual.result c.from_residual.ensures.1 in
    fails _ _ c.in_err-answer.field-0.0 _ _ _ c.in_err-answer.ensures (p.1 ∙ ap Err p.2)

pub returns : goal.returns
unfolding pipe_at
returns c = read_then _ _ _ _ _ c.in_ok-answer.ensures refl

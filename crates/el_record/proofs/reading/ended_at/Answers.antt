use Rattle.std.proofs.Common.{Err, ap, ◌∙◌}
use Rattle.std.proofs.lemmas.Result.{err_from_is_err_and}
use Rattle.el_record.specs.TraceReading.{ended_at}
use Rattle.el_record.proofs.Read.{then_read, fails}
use Rattle.el_record.proofs.reading.ended_at.Goals as goal

pub returns-in_err-letter : goal.returns-in_err-letter
unfolding ended_at
returns-in_err-letter c =
    let p = err_from_is_err_and c.from_residual.result c.from_residual.ensures.1 in
    fails _ _ c.in_err-letter.field-0.0 _ _ _ c.in_err-letter.ensures (p.1 ∙ ap Err p.2)

pub returns : goal.returns
unfolding ended_at
returns c = then_read _ _ _ _ _ _ c.in_ok-letter.ensures c.ended_by.ensures

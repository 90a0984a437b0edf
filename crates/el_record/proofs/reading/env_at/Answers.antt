use Rattle.std.proofs.Common.{Err, ap, ◌∙◌}
use Rattle.std.proofs.lemmas.Result.{err_from_is_err_and}
use Rattle.el_record.specs.TraceReading.{env_at}
use Rattle.el_record.specs.Read.{variables_at}
use Rattle.el_record.proofs.Read.{then_read, fails}
use Rattle.el_record.proofs.reading.env_at.Goals as goal

pub returns-in_err-count : goal.returns-in_err-count
unfolding env_at variables_at
returns-in_err-count c =
    let p = err_from_is_err_and c.from_residual.result c.from_residual.ensures.1 in
    fails _ _ c.in_err-count.field-0.0 _ _ _ c.in_err-count.ensures (p.1 ∙ ap Err p.2)

pub returns : goal.returns
unfolding env_at variables_at
returns c = then_read _ _ _ _ _ _ c.in_ok-count.ensures c.variables_at.ensures

use Rattle.std.proofs.Common.{Err, ap, ◌∙◌}
use Rattle.std.proofs.lemmas.Result.{err_from_is_err_and}
use Rattle.el_record.proofs.Read.{then_read, fails}
use Rattle.el_record.proofs.reading.end_record.Goals as goal

pub returns-in_err-kind : goal.returns-in_err-kind
returns-in_err-kind c =
    let p = err_from_is_err_and c.from_residual.result c.from_residual.ensures.1 in
    fails _ _ c.in_err-kind.field-0.0 _ _ _ c.in_err-kind.ensures (p.1 ∙ ap Err p.2)

pub returns-in_err-end : goal.returns-in_err-end
returns-in_err-end c =
    let p = err_from_is_err_and c.from_residual-in_err-end.result c.from_residual-in_err-end.ensures.1 in
    then_read _ _ _ _ _ _ c.in_ok-kind.ensures
    (fails _ _ c.in_err-end.field-0.0 _ _ _ c.in_err-end.ensures (p.1 ∙ ap Err p.2))

pub returns : goal.returns
returns c = then_read _ _ _ _ _ _ c.in_ok-kind.ensures (then_read _ _ _ _ _ _ c.in_ok-end.ensures c.end_line.ensures)

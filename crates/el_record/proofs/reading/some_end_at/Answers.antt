use Rattle.std.proofs.Common.{Err, ap, ◌∙◌, refl}
use Rattle.std.proofs.lemmas.Result.{err_from_is_err_and}
use Rattle.el_record.proofs.FieldLaws.{read_then}
use Rattle.el_record.proofs.Read.{fails}
use Rattle.el_record.proofs.reading.some_end_at.Goals as goal

pub returns-in_err-handle : goal.returns-in_err-handle
returns-in_err-handle c =
    let p = err_from_is_err_and c.from_residual.result c.from_residual.ensures.1 in
    fails _ _ c.in_err-handle.field-0.0 _ _ _ c.in_err-handle.ensures (p.1 ∙ ap Err p.2)

pub returns : goal.returns
returns c = read_then _ _ _ _ _ c.in_ok-handle.ensures refl

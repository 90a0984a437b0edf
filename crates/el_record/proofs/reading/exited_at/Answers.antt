use Rattle.std.proofs.Common.{Err, ap, ◌∙◌, refl}
use Rattle.std.proofs.lemmas.Result.{err_from_is_err_and}
use Rattle.el_record.proofs.FieldLaws.{read_then}
use Rattle.el_record.proofs.Read.{fails}
use Rattle.el_record.proofs.reading.exited_at.Goals as goal

pub returns-in_err-code : goal.returns-in_err-code
returns-in_err-code c =
    let p = err_from_is_err_and c.from_residual.result c.from_residual.ensures.1 in
    fails _ _ c.in_err-code.field-0.0 _ _ _ c.in_err-code.ensures (p.1 ∙ ap Err p.2)

pub returns : goal.returns
returns c = read_then _ _ _ _ _ c.in_ok-code.ensures refl

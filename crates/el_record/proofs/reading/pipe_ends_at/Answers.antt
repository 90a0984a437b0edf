use Rattle.std.proofs.Common.{Err, ap, ◌∙◌, refl}
use Rattle.std.proofs.lemmas.Result.{err_from_is_err_and}
use Rattle.el_record.proofs.FieldLaws.{read_then}
use Rattle.el_record.proofs.Read.{then_read, fails}
use Rattle.el_record.proofs.reading.pipe_ends_at.Goals as goal

pub returns-in_err-first : goal.returns-in_err-first
returns-in_err-first c =
    let p = err_from_is_err_and c.from_residual.result c.from_residual.ensures.1 in
    fails _ _ c.in_err-first.field-0.0 _ _ _ c.in_err-first.ensures (p.1 ∙ ap Err p.2)

pub returns-in_err-second : goal.returns-in_err-second
returns-in_err-second c =
    let p = err_from_is_err_and c.from_residual-in_err-second.result c.from_residual-in_err-second.ensures.1 in
    then_read _ _ _ _ _ _ c.in_ok-first.ensures
    (fails _ _ c.in_err-second.field-0.0 _ _ _ c.in_err-second.ensures (p.1 ∙ ap Err p.2))

pub returns : goal.returns
returns c = read_then _ _ _ _ _ c.in_ok-first.ensures
    (read_then _ _ _ _ _ c.in_ok-second.ensures refl)

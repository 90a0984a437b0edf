use Rattle.std.proofs.lemmas.Bool.{eq-eqb, ne_eqb}
use Rattle.std.proofs.Common.{Err, ap, ◌∙◌}
use Rattle.std.proofs.lemmas.Result.{err_from_is_err_and}
use Rattle.el_record.proofs.Read.{fails, passes, passes_not}
use Rattle.el_record.proofs.FieldLaws.{read_then}
use Rattle.el_record.proofs.reading.end_line.Goals as goal

pub returns-in_err-byte : goal.returns-in_err-byte
returns-in_err-byte c =
    let p = err_from_is_err_and c.from_residual.result c.from_residual.ensures.1 in
    fails _ _ c.in_err-byte.field-0.0 _ _ _ c.in_err-byte.ensures (p.1 ∙ ap Err p.2)

pub returns-then-byte-eq10 : goal.returns-then-byte-eq10
returns-then-byte-eq10 c = read_then _ _ _ _ _ c.in_ok-byte.ensures (passes _ _ _ (eq-eqb _ _ c.if-byte-eq10.true))

pub returns : goal.returns
returns c = read_then _ _ _ _ _ c.in_ok-byte.ensures (passes_not _ _ _ (ne_eqb _ _ c.if-byte-eq10.false))

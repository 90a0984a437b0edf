use Rattle.std.proofs.Common.{Err, ap, ◌∙◌, sym}
use Rattle.std.proofs.lemmas.Result.{err_from_is_err_and}
use Rattle.el_record.proofs.Read.{fails, passes, passes_not}
use Rattle.el_record.proofs.FieldLaws.{read_then}
use Rattle.el_record.proofs.reading.killed_at.Goals as goal

pub returns-in_err-signal : goal.returns-in_err-signal
returns-in_err-signal c =
    let p = err_from_is_err_and c.from_residual.result c.from_residual.ensures.1 in
    fails _ _ c.in_err-signal.field-0.0 _ _ _ c.in_err-signal.ensures (p.1 ∙ ap Err p.2)

pub returns-then-is_signal : goal.returns-then-is_signal
returns-then-is_signal c = read_then _ _ _ _ _ c.in_ok-signal.ensures (passes _ _ _ (sym c.if-is_signal.ensures))

pub returns : goal.returns
returns c = read_then _ _ _ _ _ c.in_ok-signal.ensures (passes_not _ _ _ (sym c.if-is_signal.ensures))

use Rattle.std.proofs.Common.{Err, ap, ◌∙◌, sym}
use Rattle.std.proofs.lemmas.Result.{err_from_is_err_and}
use Rattle.el_record.proofs.Read.{fails, passes, passes_not}
use Rattle.el_record.proofs.FieldLaws.{read_then}
use Rattle.el_record.proofs.reading.piece_at.Goals as goal

pub returns-in_err-bytes : goal.returns-in_err-bytes
returns-in_err-bytes c =
    let p = err_from_is_err_and c.from_residual.result c.from_residual.ensures.1 in
    fails _ _ c.in_err-bytes.field-0.0 _ _ _ c.in_err-bytes.ensures (p.1 ∙ ap Err p.2)

pub returns-then-is_piece : goal.returns-then-is_piece
returns-then-is_piece c = rw c.in_ok-piece.ensures (read_then _ _ _ _ _ c.in_ok-bytes.ensures (passes _ _ _ (sym c.if-is_piece.ensures)))

pub returns : goal.returns
returns c = read_then _ _ _ _ _ c.in_ok-bytes.ensures (passes_not _ _ _ (sym c.if-is_piece.ensures))

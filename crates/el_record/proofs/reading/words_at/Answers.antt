use Rattle.std.proofs.Common.{Err, ap, ◌∙◌, sym}
use Rattle.std.proofs.lemmas.Result.{err_from_is_err_and}
use Rattle.el_record.specs.TraceReading.{words_at}
use Rattle.el_record.proofs.Read.{then_read, fails, passes, passes_not}
use Rattle.el_record.proofs.FieldLaws.{read_then}
use Rattle.el_record.proofs.reading.words_at.Goals as goal

pub returns-in_err-count : goal.returns-in_err-count
unfolding words_at
returns-in_err-count c =
    let p = err_from_is_err_and c.from_residual.result c.from_residual.ensures.1 in
    fails _ _ c.in_err-count.field-0.0 _ _ _ c.in_err-count.ensures (p.1 ∙ ap Err p.2)

pub returns-in_err-words : goal.returns-in_err-words
unfolding words_at
returns-in_err-words c =
    let p = err_from_is_err_and c.from_residual-in_err-words.result c.from_residual-in_err-words.ensures.1 in
    then_read _ _ _ _ _ _ c.in_ok-count.ensures
    (fails _ _ c.in_err-words.field-0.0 _ _ _ c.in_err-words.ensures (p.1 ∙ ap Err p.2))

pub returns-then-has_first : goal.returns-then-has_first
unfolding words_at
returns-then-has_first c = read_then _ _ _ _ _ c.in_ok-count.ensures (read_then _ _ _ _ _ c.in_ok-words.ensures (passes _ _ _ (sym c.if-has_first.ensures)))

pub returns : goal.returns
unfolding words_at
returns c = read_then _ _ _ _ _ c.in_ok-count.ensures (read_then _ _ _ _ _ c.in_ok-words.ensures (passes_not _ _ _ (sym c.if-has_first.ensures)))

use Rattle.std.proofs.Common.{Err, ap, ◌∙◌}
use Rattle.std.proofs.lemmas.Result.{err_from_is_err_and}
use Rattle.el_record.specs.Reading.{bytes_of_front}
use Rattle.el_record.specs.TraceReading.{is_word, word_at}
use Rattle.el_record.proofs.Read.{fails_so, passing_as, passing_none}
use Rattle.el_record.proofs.reading.dir_at.Goals as goal

pub returns-in_err-dir : goal.returns-in_err-dir
unfolding word_at
returns-in_err-dir c =
    let p = err_from_is_err_and c.from_residual.result c.from_residual.ensures.1 in
    fails_so _ _ c.in_err-dir.field-0.0 _ _ _ (passing_none (bytes_of_front c.args.reader.now.rest.now) is_word _) c.in_err-dir.ensures (p.1 ∙ ap Err p.2)

pub returns : goal.returns
unfolding word_at
returns c = passing_as (bytes_of_front c.args.reader.now.rest.now) is_word _ _ _ c.in_ok-dir.ensures

use Rattle.std.proofs.Common.{sym}
use Rattle.el_record.specs.TraceReading.{word_at}
use Rattle.el_record.proofs.FieldLaws.{read_then}
use Rattle.el_record.proofs.Read.{word_is, word_is_not}
use Rattle.el_record.proofs.reader.Reader.word.Goals as goal

pub returns-then-contains-clause-read : goal.returns-then-contains-clause-read
unfolding word_at
returns-then-contains-clause-read c = read_then _ _ _ _ _ c.in_ok-bytes.ensures (word_is_not c.in_ok-bytes.bytes.now _ (sym c.if-contains.ensures.value))

pub returns-clause-read : goal.returns-clause-read
unfolding word_at
returns-clause-read c = read_then _ _ _ _ _ c.in_ok-bytes.ensures (word_is c.in_ok-bytes.bytes.now _ (sym c.if-contains.ensures.value))

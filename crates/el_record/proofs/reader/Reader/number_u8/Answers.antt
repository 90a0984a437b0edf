use Rattle.std.proofs.Common.{arith}
use Rattle.el_record.specs.TraceReading.{number_below}
use Rattle.el_record.proofs.FieldLaws.{read_then}
use Rattle.el_record.proofs.Read.{is_below, is_not_below}
use Rattle.el_record.proofs.reader.Reader.number_u8.Goals as goal

pub returns-in-Ok : goal.returns-in-Ok
unfolding number_below
returns-in-Ok c = read_then _ _ _ _ _ c.in_ok-number.ensures (is_below _ _ _ _ (grind (arith, c.in-Ok.ensures)) (grind (arith, c.in-Ok.ensures)))

pub returns-in-Err : goal.returns-in-Err
unfolding number_below
returns-in-Err c = read_then _ _ _ _ _ c.in_ok-number.ensures (is_not_below _ _ _ (grind (arith, c.in-Err.ensures)))

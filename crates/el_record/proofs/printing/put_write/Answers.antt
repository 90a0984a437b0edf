use Rattle.el_record.proofs.Printed.{puts_then}
use Rattle.el_record.proofs.printing.put_write.Goals as goal

pub returns : goal.returns
returns c = puts_then (puts_then (puts_then (puts_then c.in_ok-put_byte.ensures c.in_ok-put_number.ensures) (rw c.as_bytes.ensures at c.in_ok-put_bytes.ensures)) c.in_ok-put_write_answer.ensures) c.in_ok-put_byte-2.ensures

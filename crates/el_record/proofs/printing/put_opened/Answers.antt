use Rattle.el_record.proofs.Printed.{puts_then}
use Rattle.el_record.proofs.printing.put_opened.Goals as goal

pub returns : goal.returns
returns c = puts_then (puts_then (puts_then (puts_then (puts_then c.in_ok-put_byte.ensures (rw c.as_bytes.ensures.same at c.in_ok-put_bytes.ensures)) (rw c.as_bytes-2.ensures.same at c.in_ok-put_bytes-2.ensures)) (rw c.mode_letter.ensures at c.in_ok-put_byte-2.ensures)) c.in_ok-put_opened_answer.ensures) c.in_ok-put_byte-3.ensures

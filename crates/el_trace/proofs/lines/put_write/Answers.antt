use Rattle.el_record.proofs.Printed.{puts_then}
use Rattle.el_trace.proofs.lines.put_write.Goals as goal

pub returns : goal.returns
returns c = puts_then (puts_then (puts_then (puts_then (puts_then c.in_ok-put_text.ensures c.in_ok-put_number.ensures) c.in_ok-put_text-2.ensures) (rw c.as_bytes.ensures at c.in_ok-put_quoted.ensures)) c.in_ok-put_text-3.ensures) c.in_ok-put_done.ensures

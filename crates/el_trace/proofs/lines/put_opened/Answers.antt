use Rattle.el_record.proofs.Printed.{puts_then}
use Rattle.el_trace.proofs.lines.put_opened.Goals as goal

pub returns : goal.returns
returns c = puts_then (puts_then (puts_then (puts_then (puts_then c.in_ok-put_text.ensures (rw c.as_bytes.ensures.same at c.in_ok-put_bytes.ensures)) c.in_ok-put_text-2.ensures) (rw c.mode_shown.ensures at c.in_ok-put_text-3.ensures)) c.in_ok-put_text-4.ensures) c.in_ok-put_given.ensures

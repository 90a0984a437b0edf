use Rattle.el_record.proofs.Printed.{puts_then}
use Rattle.el_trace.proofs.lines.put_line.Goals as goal

pub returns : goal.returns
returns c = puts_then (puts_then (puts_then c.in_ok-put_number.ensures c.in_ok-put_text.ensures) c.in_ok-put_event.ensures) c.in_ok-put_text-2.ensures

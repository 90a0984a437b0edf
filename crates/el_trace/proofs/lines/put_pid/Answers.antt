use Rattle.el_record.proofs.Printed.{puts_then}
use Rattle.el_trace.proofs.lines.put_pid.Goals as goal

pub returns : goal.returns
returns c = puts_then c.in_ok-put_text.ensures (rw c.from.ensures at c.in_ok-put_number.ensures)

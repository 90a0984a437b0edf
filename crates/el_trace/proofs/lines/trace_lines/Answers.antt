use Rattle.el_record.proofs.Printed.{puts_then, whole_text}
use Rattle.el_trace.proofs.lines.trace_lines.Goals as goal

pub returns : goal.returns
returns c = whole_text (puts_then (puts_then (rw c.new-out.ensures at c.in_ok-put_events.ensures) (rw c.len.ensures at c.in_ok-put_number.ensures)) c.in_ok-put_run_end.ensures)

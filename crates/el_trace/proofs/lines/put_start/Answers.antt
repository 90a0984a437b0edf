use Rattle.el_record.proofs.Printed.{puts_then}
use Rattle.el_trace.proofs.lines.put_start.Goals as goal

pub returns : goal.returns
returns c = puts_then (puts_then (puts_then (puts_then (puts_then (puts_then c.in_ok-put_text.ensures c.in_ok-put_words.ensures) c.in_ok-put_text-2.ensures) (rw c.as_bytes.ensures.same at c.in_ok-put_bytes.ensures)) c.in_ok-put_env.ensures) c.in_ok-put_ends.ensures) c.in_ok-put_started.ensures

use Rattle.el_record.proofs.Printed.{puts_then}
use Rattle.el_record.proofs.printing.put_feed.Goals as goal

pub returns : goal.returns
returns c = puts_then (puts_then (puts_then c.in_ok-put_byte.ensures (rw c.as_bytes.ensures at c.in_ok-put_bytes.ensures)) c.in_ok-put_opened_answer.ensures) c.in_ok-put_byte-2.ensures

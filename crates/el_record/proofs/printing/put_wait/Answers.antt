use Rattle.el_record.proofs.Printed.{puts_then}
use Rattle.el_record.proofs.printing.put_wait.Goals as goal

pub returns : goal.returns
returns c = puts_then (puts_then (puts_then c.in_ok-put_byte.ensures (rw c.from.ensures at c.in_ok-put_number.ensures)) c.in_ok-put_ended.ensures) c.in_ok-put_byte-2.ensures

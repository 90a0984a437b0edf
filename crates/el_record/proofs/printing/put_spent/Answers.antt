use Rattle.el_record.proofs.Printed.{puts_then}
use Rattle.el_record.proofs.printing.put_spent.Goals as goal

pub returns : goal.returns
returns c = puts_then (puts_then c.in_ok-put_byte.ensures c.in_ok-put_byte-2.ensures) c.in_ok-put_byte-3.ensures

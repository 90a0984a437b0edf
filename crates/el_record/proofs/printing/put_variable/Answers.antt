use Rattle.el_record.proofs.Printed.{puts_then}
use Rattle.el_record.proofs.printing.put_variable.Goals as goal

pub returns : goal.returns
returns c = puts_then c.in_ok-put_bytes.ensures c.in_ok-put_bytes-2.ensures

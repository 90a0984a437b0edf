use Rattle.el_record.proofs.Printed.{puts_netstring}
use Rattle.el_record.proofs.printing.put_bytes.Goals as goal

pub returns : goal.returns
returns c = puts_netstring c.args.out.now c.args.bytes.now _ c.in_ok-netstring.ensures

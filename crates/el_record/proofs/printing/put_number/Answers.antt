use Rattle.std.specs.Fmt.{decimal}
use Rattle.el_record.proofs.Printed.{puts_ended}
use Rattle.el_record.proofs.printing.put_number.Goals as goal

pub returns : goal.returns
returns c = puts_ended c.args.out.now (decimal c.args.number) 59 _ c.in_ok-number.ensures

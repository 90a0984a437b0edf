use Rattle.el_record.proofs.Printed.{puts_behind}
use Rattle.el_trace.proofs.lines.put_text.Goals as goal

pub returns : goal.returns
returns c = puts_behind c.args.out.now c.args.text.now _ c.in_ok-append.ensures.ok

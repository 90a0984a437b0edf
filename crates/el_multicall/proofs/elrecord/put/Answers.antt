use Rattle.el_world.proofs.Runs.{go_on}
use Rattle.el_multicall.specs.Record.{ending_in}
use Rattle.el_multicall.proofs.Recorded.{written_well, not_written}
use Rattle.el_multicall.proofs.elrecord.put.Goals as goal

pub returns-in-Ok-written : goal.returns-in-Ok-written
returns-in-Ok-written g c =
    go_on _ c.in-Ok.ensures.run (go_on _ c.close.ensures.run (written_well (ending_in c.args.end) c.finish_of.result c.in-Ok.written c.in-Ok-written.field-0 c.in-Ok-written.is c.finish_of.ensures))

pub returns-in-Err : goal.returns-in-Err
returns-in-Err g c =
    go_on _ c.in-Ok.ensures.run (go_on _ c.close.ensures.run (not_written (ending_in c.args.end) c.complain.result c.in-Ok.written c.in-Err.field-0 c.in-Err.is c.complain.ensures))

use Rattle.el_world.proofs.Follows.{memory_short}
use Rattle.el_pipes.proofs.programs.backtick.put_in.Goals as goal

pub returns-in_err-pairs-clause-run : goal.returns-in_err-pairs-clause-run
returns-in_err-pairs-clause-run g c = memory_short c.from_residual.ensures.1

pub returns-in_err-proc-clause-run : goal.returns-in_err-proc-clause-run
returns-in_err-proc-clause-run g c = memory_short c.from_residual-in_err-proc.ensures.1

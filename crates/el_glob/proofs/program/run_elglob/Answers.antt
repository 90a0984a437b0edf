use Rattle.std.proofs.Common.{arith}
use Rattle.el_proc.specs.Processes.{state_of}
use Rattle.el_glob.proofs.Runs.{runs_spent, runs_unit, runs_nothing}
use Rattle.el_glob.proofs.program.run_elglob.Goals as goal

pub returns-then-proc-eq0 : goal.returns-then-proc-eq0
returns-then-proc-eq0 g c = runs_spent c.args.proc.now.budget c.args.words.now (state_of c.args.proc.now) (omega (arith, c.if-proc-eq0.true))

pub returns-in-Err : goal.returns-in-Err
returns-in-Err g c = runs_unit c.args.proc.now.budget c.args.words.now (state_of c.args.proc.now) (omega (arith, c.if-proc-eq0.false)) (runs_nothing _ _)

use Rattle.std.proofs.Common.{Err}
use Rattle.el_proc.specs.Processes.{state_of}
use Rattle.el_glob.specs.Elglob.{asked_run}
use Rattle.el_glob.proofs.Runs.{runs_without}
use Rattle.el_glob.proofs.program.run_read.Goals as goal

pub returns-in-Err : goal.returns-in-Err
unfolding asked_run
returns-in-Err g c = rw c.in-Err.is (runs_without (λ answers. asked_run (Err c.in-Err.refusal) answers (state_of c.args.proc.now)) c.refuse.ensures)

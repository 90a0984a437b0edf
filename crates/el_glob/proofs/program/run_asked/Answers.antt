use Rattle.el_proc.specs.Processes.{state_of}
use Rattle.el_glob.proofs.Runs.{runs_found, runs_failed}
use Rattle.el_glob.proofs.program.run_asked.Goals as goal

pub returns-in-Ok : goal.returns-in-Ok
returns-in-Ok g c = runs_found c.args.asked (state_of c.args.proc.now) c.in-Ok.matches c.in-Ok.ensures c.put_and_run.ensures

pub returns-in-Err-Failed : goal.returns-in-Err-Failed
returns-in-Err-Failed g c = runs_failed c.args.asked (state_of c.args.proc.now) (rw c.in-Err-Failed.field-0-is at c.in-Err-Failed.ensures) c.refuse.ensures

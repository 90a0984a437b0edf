use Rattle.el_proc.specs.Processes.{state_of}
use Rattle.el_glob.proofs.Runs.{called, tells}
use Rattle.el_glob.proofs.program.elglob.Goals as goal

pub returns-clause-globbed : goal.returns-clause-globbed
returns-clause-globbed g c = called (state_of c.first_process-proc.result) c.first_process-proc.result.budget c.first_process-proc.ensures.state c.first_process-proc.ensures.budget c.run_elglob.ensures

pub returns-clause-told : goal.returns-clause-told
returns-clause-told g c = tells (called (state_of c.first_process-proc.result) c.first_process-proc.result.budget c.first_process-proc.ensures.state c.first_process-proc.ensures.budget c.run_elglob.ensures)

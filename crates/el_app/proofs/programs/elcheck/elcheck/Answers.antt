use Rattle.el_app.proofs.Calls.{call_tells, call_run, call_spent}
use Rattle.el_app.proofs.Completeness.{accepts_the_accepted}
use Rattle.el_app.proofs.SampleAnswers.{tells_the_sample}
use Rattle.el_app.proofs.programs.elcheck.elcheck.Goals as goal

pub returns-clause-told : goal.returns-clause-told
returns-clause-told g c = call_tells (rw (c.first_process-proc.ensures.state, c.first_process-proc.ensures.budget) at c.run_elcheck.ensures)

pub returns-clause-complete : goal.returns-clause-complete
returns-clause-complete g c = accepts_the_accepted (call_tells (rw (c.first_process-proc.ensures.state, c.first_process-proc.ensures.budget) at c.run_elcheck.ensures))

pub returns-clause-sample : goal.returns-clause-sample
returns-clause-sample g c = tells_the_sample c.args.env c.args.dir (call_tells (rw (c.first_process-proc.ensures.state, c.first_process-proc.ensures.budget) at c.run_elcheck.ensures))

pub returns-clause-run : goal.returns-clause-run
returns-clause-run g c = call_run (rw (c.first_process-proc.ensures.state, c.first_process-proc.ensures.budget) at c.run_elcheck.ensures)

pub returns-clause-spent : goal.returns-clause-spent
returns-clause-spent g c = call_spent (rw (c.first_process-proc.ensures.state, c.first_process-proc.ensures.budget) at c.run_elcheck.ensures)

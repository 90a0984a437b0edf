use Rattle.el_app.proofs.OwedCalls.{runs-wait, calls-wait}
use Rattle.el_app.proofs.laws.each_wait_is_due.Goals as goal

pub returns-clause-runs : goal.returns-clause-runs
returns-clause-runs c = runs-wait

pub returns-clause-calls : goal.returns-clause-calls
returns-clause-calls c = calls-wait

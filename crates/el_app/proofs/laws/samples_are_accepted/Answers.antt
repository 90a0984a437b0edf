use Rattle.el_app.proofs.SampleTrees.{samples-are-accepted, samples-are-run}
use Rattle.el_app.proofs.laws.samples_are_accepted.Goals as goal

pub returns-clause-accepted : goal.returns-clause-accepted
returns-clause-accepted c = samples-are-accepted

pub returns-clause-run : goal.returns-clause-run
returns-clause-run c = samples-are-run

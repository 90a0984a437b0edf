use Rattle.el_app.proofs.SampleRuns.{samples-end, samples-are-told}
use Rattle.el_app.proofs.laws.samples_end_well.Goals as goal

pub returns-clause-played : goal.returns-clause-played
returns-clause-played c = samples-end

pub returns-clause-told : goal.returns-clause-told
returns-clause-told c = samples-are-told

use Rattle.el_test.proofs.CasesRead.{cases_are_the_reading}
use Rattle.el_test.proofs.laws.faults_are_by_cases.Goals as goal

pub returns : goal.returns
returns c = cases_are_the_reading

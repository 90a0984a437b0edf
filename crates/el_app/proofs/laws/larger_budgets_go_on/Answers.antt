use Rattle.el_app.proofs.Budgets.{more-same, more-begins, left-enough, status-stays}
use Rattle.el_app.proofs.laws.larger_budgets_go_on.Goals as goal

pub returns-clause-same : goal.returns-clause-same
returns-clause-same c = more-same

pub returns-clause-tasks : goal.returns-clause-tasks
returns-clause-tasks c = more-same

pub returns-clause-left : goal.returns-clause-left
returns-clause-left c = left-enough

pub returns-clause-begins : goal.returns-clause-begins
returns-clause-begins c = more-begins

pub returns-clause-execlineb : goal.returns-clause-execlineb
returns-clause-execlineb c = status-stays

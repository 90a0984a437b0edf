use Rattle.el_app.proofs.ClosedHandles.{runs-name_held, closed-named_no_more}
use Rattle.el_app.proofs.laws.closed_handles_are_named_no_more.Goals as goal

pub returns-clause-held : goal.returns-clause-held
returns-clause-held c = runs-name_held

pub returns-clause-closed : goal.returns-clause-closed
returns-clause-closed c = closed-named_no_more

pub returns-clause-tasks_held : goal.returns-clause-tasks_held
returns-clause-tasks_held c = runs-name_held

pub returns-clause-tasks_closed : goal.returns-clause-tasks_closed
returns-clause-tasks_closed c = closed-named_no_more

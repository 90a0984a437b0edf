use Rattle.el_family.proofs.Courses.{answered_from}
use Rattle.el_family.proofs.laws.answers_are_due.Goals as goal

pub returns : goal.returns
returns c = answered_from

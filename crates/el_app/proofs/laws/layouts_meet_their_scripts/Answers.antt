use Rattle.el_app.proofs.Comments.{alike, wider}
use Rattle.el_app.proofs.laws.layouts_meet_their_scripts.Goals as goal

pub returns-clause-alike : goal.returns-clause-alike
returns-clause-alike c = alike

pub returns-clause-wider : goal.returns-clause-wider
returns-clause-wider c = wider

use Rattle.el_options.proofs.Keeping.{no-wrong-use, no-bad-number}
use Rattle.el_options.proofs.laws.rules_are_kept.Goals as goal

pub returns-clause-wrong_use : goal.returns-clause-wrong_use
returns-clause-wrong_use c = no-wrong-use

pub returns-clause-bad_number : goal.returns-clause-bad_number
returns-clause-bad_number c = no-bad-number

use Rattle.el_options.proofs.Written.{letters-written}
use Rattle.el_options.proofs.laws.letters_are_these.Goals as goal

pub returns-clause-programs : goal.returns-clause-programs
returns-clause-programs c = letters-written

use Rattle.el_env.proofs.Arguments.{ArePositionals-set}
use Rattle.el_env.proofs.laws.positionals_are_those_set.Goals as goal

pub returns : goal.returns
returns c = ArePositionals-set

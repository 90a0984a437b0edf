use Rattle.el_env.proofs.Arguments.{positionals_unique}
use Rattle.el_env.proofs.laws.positionals_are_one.Goals as goal

pub returns : goal.returns
returns c = positionals_unique

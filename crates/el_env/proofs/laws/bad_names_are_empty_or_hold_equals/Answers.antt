use Rattle.el_env.proofs.Names.{IsBadName-is, IsBadName-from}
use Rattle.el_env.proofs.laws.bad_names_are_empty_or_hold_equals.Goals as goal

pub returns : goal.returns
returns c = λ name. (IsBadName-is name, IsBadName-from name)

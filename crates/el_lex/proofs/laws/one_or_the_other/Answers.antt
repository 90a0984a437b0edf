use Rattle.el_lex.proofs.Found.{found}
use Rattle.el_lex.proofs.laws.one_or_the_other.Goals as goal

pub returns : goal.returns
returns c = found

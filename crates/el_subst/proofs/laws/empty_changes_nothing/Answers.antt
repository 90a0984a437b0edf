use Rattle.el_subst.proofs.Values.{words_value-empty}
use Rattle.el_subst.proofs.laws.empty_changes_nothing.Goals as goal

pub returns : goal.returns
returns c = words_value-empty

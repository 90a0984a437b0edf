use Rattle.el_subst.proofs.Values.{plain-stays}
use Rattle.el_subst.proofs.laws.plain_words_stay.Goals as goal

pub returns : goal.returns
returns c = plain-stays

use Rattle.el_lint.proofs.Refusing.{words-end}
use Rattle.el_lint.proofs.laws.refused_words_end.Goals as goal

pub returns : goal.returns
returns c = words-end

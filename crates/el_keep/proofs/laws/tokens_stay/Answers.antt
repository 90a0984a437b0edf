use Rattle.el_keep.proofs.Texts.{tokens-stay}
use Rattle.el_keep.proofs.laws.tokens_stay.Goals as goal

pub returns : goal.returns
returns c = tokens-stay

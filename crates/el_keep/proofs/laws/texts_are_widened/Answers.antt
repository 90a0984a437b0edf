use Rattle.el_keep.proofs.WideTexts.{text-widened}
use Rattle.el_keep.proofs.laws.texts_are_widened.Goals as goal

pub returns : goal.returns
returns c = text-widened

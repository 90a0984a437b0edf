use Rattle.el_keep.proofs.Loops.{text-kept}
use Rattle.el_keep.proofs.laws.texts_are_kept.Goals as goal

pub returns : goal.returns
returns c = text-kept

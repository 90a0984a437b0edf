use Rattle.el_subst.proofs.Parts.{parts_text-is}
use Rattle.el_subst.proofs.laws.parts_join.Goals as goal

pub returns : goal.returns
returns c = parts_text-is

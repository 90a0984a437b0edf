use Rattle.std.proofs.lemmas.Slice.Eq.{slice_eq-Decides}
use Rattle.el_trace.proofs.Sameness.{option-Decides, handle-Decides}
use Rattle.el_trace.proofs.same.same_ends.Goals as goal

pub returns : goal.returns
returns c = slice_eq-Decides (option-Decides handle-Decides) c.args.one.now c.args.other.now c.eq.result c.eq.ensures

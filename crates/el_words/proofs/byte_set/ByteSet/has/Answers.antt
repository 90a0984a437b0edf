use Rattle.std.proofs.Common.{◌∙◌, sym, ap, slice_index_or, false}
use Rattle.std.specs.FinSet as set
use Rattle.std.specs.Ordering.{nat_cmp}
use Rattle.el_words.specs.Flags.{contains-places}
use Rattle.el_words.proofs.byte_set.ByteSet.has.Goals as goal

pub returns : goal.returns
returns c =
    ap (λ q. slice_index_or c.self.inside.members q false) c.from.ensures
    ∙ sym (contains-places c.self.inside.members c.args.byte)
    ∙ ap (λ s. set.contains {R = nat_cmp} s c.args.byte) c.self.view_is

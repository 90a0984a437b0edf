use Rattle.std.proofs.Common.{◌∙◌, ap, sym, length, slice_range}
use Rattle.el_words.proofs.Slices.{sum_by-length}
use Rattle.el_words.proofs.words.Words.bytes_between.Goals as goal

pub returns : goal.returns
returns c = ap length c.joined_between.ensures.same ∙ sym (sum_by-length (slice_range c.args.self.now c.args.from c.args.to))

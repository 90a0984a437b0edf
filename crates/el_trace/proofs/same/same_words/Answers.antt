use Rattle.std.proofs.Common.{arith}
use Rattle.el_trace.proofs.Sameness.{all_words_same}
use Rattle.el_trace.proofs.same.same_words.Goals as goal

pub returns : goal.returns
returns c = all_words_same c.args.one.now c.args.other.now c.loop-place.place (omega (arith, c.loop-place-test.false, c.len-place-end.ensures.count)) c.loop-place.invariant.0 c.loop-place.invariant.1

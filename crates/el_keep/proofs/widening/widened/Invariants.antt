use Rattle.std.proofs.Common.{length}
use Rattle.el_keep.specs.Texts.{widened_text}
use Rattle.el_keep.proofs.WideTexts.{WideLeft}
use Rattle.el_keep.proofs.widening.widened.Given as goal

-- what is left of the three texts
abbrev pub invariant-loop-plain_left : goal.invariant-loop-plain_left
invariant-loop-plain_left l = WideLeft (widened_text l.fn.plain l.fn.layout l.fn.script) l.out l.plain_left l.laid l.written

abbrev pub decreases-loop-plain_left : goal.decreases-loop-plain_left
decreases-loop-plain_left l = length l.laid

use Rattle.std.proofs.Common.{length}
use Rattle.el_keep.specs.Texts.{kept_text}
use Rattle.el_keep.proofs.Loops.{Left}
use Rattle.el_keep.proofs.keeping.keep.Given as goal

-- what is left of the layout and of the script
abbrev pub invariant-loop-out : goal.invariant-loop-out
invariant-loop-out l = Left (kept_text l.fn.layout l.fn.script) l.out l.laid l.written l.seam

abbrev pub decreases-loop-out : goal.decreases-loop-out
decreases-loop-out l = length l.laid

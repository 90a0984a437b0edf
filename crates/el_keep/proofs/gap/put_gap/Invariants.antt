use Rattle.std.proofs.Common.{◌≡◌, ◌++◌, drop}
use Rattle.el_keep.specs.Rendered.{rendered, rendered_in}
use Rattle.el_keep.proofs.gap.put_gap.Given as goal

-- what is put, and what is to be put
abbrev pub invariant-loop-byte : goal.invariant-loop-byte
invariant-loop-byte l = l.out ++ rendered_in l.in_comment l.seam l.follow l.distance (drop l.byte-index l.gap) ≡ l.initial.out ++ rendered l.fn.seam l.follow l.gap

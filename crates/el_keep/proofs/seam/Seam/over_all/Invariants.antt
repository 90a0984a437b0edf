use Rattle.std.proofs.Common.{◌≡◌, drop}
use Rattle.el_keep.specs.Seams.{over_all}
use Rattle.el_keep.proofs.seam.Seam.over_all.Given as goal

abbrev pub invariant-loop-byte : goal.invariant-loop-byte
invariant-loop-byte l = over_all l.seam (drop l.byte-index l.gap) ≡ over_all l.fn.self l.gap

use Rattle.std.proofs.Common.{◌≡◌, ◌*◌, ◌<◌, ◌^◌, drop}
use Rattle.el_subst.specs.Pieces.{choices_of}
use Rattle.el_subst.specs.Places.{count_of}
use Rattle.el_subst.specs.Sizes.{capped}
use Rattle.el_subst.proofs.product.count.Given as goal

abbrev pub invariant-loop-piece : goal.invariant-loop-piece
invariant-loop-piece l = (l.total < 2 ^ 64) × (capped (l.total * count_of (choices_of (drop l.piece-index l.pieces))) ≡ capped (count_of (choices_of l.pieces)))

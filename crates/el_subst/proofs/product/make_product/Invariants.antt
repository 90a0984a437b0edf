use Rattle.std.proofs.Common.{drop}
use Rattle.el_subst.specs.Pieces.{choices_of}
use Rattle.el_subst.proofs.Products.{Making}
use Rattle.el_subst.proofs.product.make_product.Given as goal

abbrev pub invariant-loop-piece : goal.invariant-loop-piece
invariant-loop-piece l = Making (choices_of l.pieces) (choices_of (drop l.piece-index l.pieces)) l.place l.stride l.left l.buffer.items

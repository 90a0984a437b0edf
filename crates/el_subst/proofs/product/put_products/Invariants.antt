use Rattle.std.proofs.Common.{take}
use Rattle.el_subst.specs.Values.{products}
use Rattle.el_subst.specs.Pieces.{choices_of}
use Rattle.el_subst.specs.Sizes.{Puts}
use Rattle.el_subst.proofs.product.put_products.Given as goal

abbrev pub invariant-loop-place : goal.invariant-loop-place
invariant-loop-place l = Puts l.fn.room l.room (take l.place (products (choices_of l.pieces)))

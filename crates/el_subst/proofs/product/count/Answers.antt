use Rattle.std.proofs.Common.{◌≡◌, ◌*◌, ◌∙◌, sym, ap, [], drop, arith}
use Rattle.std.proofs.lemmas.Grind.{common_steps}
use Rattle.el_subst.specs.Pieces.{choices_of}
use Rattle.el_subst.specs.Places.{count_of}
use Rattle.el_subst.specs.Sizes.{capped}
use Rattle.el_subst.proofs.Products.{count_of-step}
use Rattle.el_subst.proofs.product.count.Goals as goal

pub loop-piece-preserved : goal.loop-piece-preserved
loop-piece-preserved c = (
  omega (arith, c.saturating_mul-total.ensures),
  count_of-step c.args.pieces.now c.loop-piece.piece-index c.len.result c.loop-piece.total c.saturating_mul-total.result _ c.piece-item.result c.loop-piece-test.true c.piece-item.is
      c.len.ensures c.saturating_mul-total.ensures c.loop-piece.invariant.1,
)

pub returns : goal.returns
returns c =
    let none : drop c.loop-piece.piece-index c.args.pieces.now ≡ [] = grind (arith, common_steps) in
    let within = c.loop-piece.invariant.0 in
    let same : capped (c.loop-piece.total * 1) ≡ c.loop-piece.total = omega arith in
    sym same ∙ ap (λ rest. capped (c.loop-piece.total * count_of (choices_of rest))) (sym none) ∙ c.loop-piece.invariant.1

use Rattle.std.proofs.Common.{List, ℕ, subst, sym}
use Rattle.el_words.specs.Word.{HasNul}
use Rattle.el_subst.specs.Pieces.{choices_of}
use Rattle.el_subst.proofs.Products.{Making, Making-step, choices_of-drop}
use Rattle.el_subst.proofs.product.make_product.Goals as goal

pub nonzero_div-stride : goal.nonzero_div-stride
nonzero_div-stride c =
    let P : List (List (List ℕ)) → Type 0 = λ rest. Making (choices_of c.args.pieces.now) rest c.args.place c.loop-piece.stride c.loop-piece.left c.loop-piece.buffer.items in
    (Making-step _ _ _ c.len-stride.result _ _ _ _ c.len-stride.ensures (subst P (choices_of-drop c.args.pieces.now c.loop-piece.piece-index c.piece-item.result c.loop-piece-test.true c.piece-item.is) c.loop-piece.invariant)).0

pub choice-text-requires : goal.choice-text-requires
choice-text-requires c =
    let P : List (List (List ℕ)) → Type 0 = λ rest. Making (choices_of c.args.pieces.now) rest c.args.place c.loop-piece.stride c.loop-piece.left c.loop-piece.buffer.items in
    (Making-step _ _ _ c.len-stride.result _ _ _ _ c.len-stride.ensures (subst P (choices_of-drop c.args.pieces.now c.loop-piece.piece-index c.piece-item.result c.loop-piece-test.true c.piece-item.is) c.loop-piece.invariant)).2

pub loop-piece-preserved : goal.loop-piece-preserved
loop-piece-preserved c =
    let P : List (List (List ℕ)) → Type 0 = λ rest. Making (choices_of c.args.pieces.now) rest c.args.place c.loop-piece.stride c.loop-piece.left c.loop-piece.buffer.items in
    let step = Making-step _ _ _ c.len-stride.result _ _ _ _ c.len-stride.ensures (subst P (choices_of-drop c.args.pieces.now c.loop-piece.piece-index c.piece-item.result c.loop-piece-test.true c.piece-item.is) c.loop-piece.invariant) in
    rw (c.in_ok-extend_from_slice.ensures.items, c.choice-text.ensures.same) (step.3 (λ nul. c.choice-text.ensures.no_nul (subst HasNul (sym c.choice-text.ensures.same) nul)))

use Rattle.std.proofs.Common.{[], ◌∷◌, ◌++◌, List, ap, ◌∙◌}
use Rattle.el_subst.specs.declared.piece.Piece.{Piece}
use Rattle.el_subst.specs.declared.piece.Piece.TheVariants.{Literal}
use Rattle.el_subst.specs.Pieces.{part_choices}
use Rattle.el_subst.proofs.Products.{products-more, products-last}
use Rattle.el_subst.proofs.application.pieces_of.Goals as goal

pub loop-found-preserved : goal.loop-found-preserved
loop-found-preserved c =
    let put : List Piece → List Piece = λ pieces. pieces ++ c.in-Some.found.piece ∷ [] in (
      c.in-Some.ensures.no_nul,
      products-more c.loop-found.pieces.items c.push-in-Some.new.self.items (Literal c.in-Some.found.before) c.in-Some.found.piece
          (part_choices c.args.lookup.now c.loop-found.rest.now) (part_choices c.args.lookup.now c.in-Some.found.rest.now) _
          (c.in_ok-push-2.ensures.items ∙ ap put c.in_ok-push.ensures.items) c.loop-found.invariant.1 c.in-Some.ensures.some,
    )

pub returns : goal.returns
returns c =
    products-last c.loop-found.pieces.items c.push-2.new.self.items (Literal c.of.result) c.loop-found.rest.now (part_choices c.args.lookup.now c.loop-found.rest.now) _
    c.in_ok-push-3.ensures.items (ap (λ text. text ∷ []) c.of.ensures) c.loop-found.invariant.1 c.in_default.ensures.none

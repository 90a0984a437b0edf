use Rattle.std.proofs.Common.{ap, ◌∙◌, List, ℕ, [], ◌∷◌}
use Rattle.el_subst.specs.Pieces.{piece_choices}
use Rattle.el_subst.specs.Sizes.{joins, size_of}
use Rattle.el_subst.proofs.Sizes.{Counts-start, Counts-more, Counts-end}
use Rattle.el_subst.proofs.application.size_of_values.Goals as goal

pub loop-found-init : goal.loop-found-init
loop-found-init c = (c.requires, Counts-start c.args.lookup.now c.args.word.now c.of_word-size.result c.of_word-size.ensures)

pub loop-found-preserved : goal.loop-found-preserved
loop-found-preserved c =
    let choice = piece_choices c.in-Some.found.piece in
    let single : List ℕ → List (List ℕ) = λ text. text ∷ [] in
    let before = c.of_word.ensures ∙ ap (λ text. size_of (single text)) c.as_bytes.ensures.same in (
      c.in-Some.ensures.no_nul,
      Counts-more c.args.lookup.now c.args.word.now c.loop-found.rest.now c.in-Some.found.rest.now c.in-Some.found.before choice c.loop-found.size c.times-size.result
          c.loop-found.invariant.1 c.in-Some.ensures.some
          (λ front is. c.times-size.ensures (joins front (single c.in-Some.found.before)) choice (c.times.ensures front (single c.in-Some.found.before) is before) c.size.ensures),
    )

pub returns : goal.returns
returns c =
    Counts-end c.args.lookup.now c.args.word.now c.loop-found.rest.now c.loop-found.size _ c.loop-found.invariant.1 c.in_default.ensures.none
    (λ front is. c.times-2.ensures front (c.loop-found.rest.now ∷ []) is c.of_word-2.ensures)

use Rattle.std.proofs.Common.{◌∙◌, sym}
use Rattle.el_glob.proofs.Ends.{last-stands}
use Rattle.el_glob.proofs.matching.may_end.Goals as goal

pub returns-else-is_star : goal.returns-else-is_star
returns-else-is_star c = λ passes. c.stands_for.ensures
    ∙ last-stands c.args.pieces.now c.args.bytes.now c.in-Some-Some.piece.now c.in-Some-Some.byte.now (sym c.in-Some-Some.ensures.value) (sym c.in-Some-Some.ensures'.value) (sym c.is_star.ensures ∙ c.if-is_star.false) passes

use Rattle.std.proofs.Common.{◌∙◌, ap}
use Rattle.std.specs.Slice.Iter.{iter_rest}
use Rattle.std.proofs.lemmas.Result.{err_from_is_err_and}
use Rattle.el_blocks.specs.Speller.{given}
use Rattle.el_blocks.proofs.Answered.{fault-along}
use Rattle.el_blocks.proofs.spelling.spell_all.Goals as goal

pub returns-in_err-put : goal.returns-in_err-put
returns-in_err-put c =
    let p = err_from_is_err_and c.from_residual.result c.from_residual.ensures.1 in
    rw (p.1, p.2) (fault-along _ _ _ (c.loop-token.invariant ∙ ap (given c.loop-token.speller) c.in-Some.ensures.steps) (c.in_err-put.ensures.err (iter_rest c.next.new.self)))

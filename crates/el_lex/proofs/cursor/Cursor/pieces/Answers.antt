use Rattle.std.proofs.Common.{◌∙◌, arith, inr}
use Rattle.std.proofs.lemmas.Result.{err_from_is_err_and}
use Rattle.std.proofs.lemmas.Grind.{common_steps}
use Rattle.el_lex.proofs.Scans.{fault_along}
use Rattle.el_lex.proofs.cursor.Cursor.pieces.Goals as goal

pub loop-byte-preserved : goal.loop-byte-preserved
loop-byte-preserved c = record {
  same = c.loop-byte.invariant.same ∙ c.in_ok-piece.ensures.ok;
  shorter = inr (grind (arith, common_steps));
}

pub returns-in_err-piece-clause-err : goal.returns-in_err-piece-clause-err
returns-in_err-piece-clause-err c =
    let p = err_from_is_err_and c.from_residual.result c.from_residual.ensures.1 in
    rw (p.1, p.2) (fault_along _ _ _ c.loop-byte.invariant.same c.in_err-piece.ensures.err)

use Rattle.std.proofs.Common.{refl}
use Rattle.el_loops.proofs.TurnsOn.{one_found, found_last, all_found}
use Rattle.el_loops.proofs.turning.first_ending.Goals as goal

pub returns-in_err-code-clause-run : goal.returns-in_err-code-clause-run
returns-in_err-code-clause-run g c = found_last _ _ _ _ c.loop-place.invariant.on _ c.loop-place-test.true refl c.in_err-code.ensures.run c.from_residual.ensures.1

pub loop-place-preserved : goal.loop-place-preserved
loop-place-preserved g c = record { on = rw c.or_first-found.ensures (one_found _ _ _ _ c.loop-place.invariant.on _ c.loop-place-test.true refl c.in_ok-code.ensures.run); can = c.in_ok-code.ensures.more }

pub returns-clause-run : goal.returns-clause-run
returns-clause-run g c = all_found _ _ _ _ c.loop-place.invariant.on c.loop-place-test.false

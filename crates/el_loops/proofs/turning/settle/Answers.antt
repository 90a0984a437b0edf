use Rattle.std.proofs.Common.{sym, ◌∙◌}
use Rattle.el_world.proofs.Follows.{plan_then, act_then, follows_exit}
use Rattle.el_loops.specs.Turns.{after_started, ending}
use Rattle.el_loops.proofs.turning.settle.Goals as goal

pub returns-then-is_ending-clause-run : goal.returns-then-is_ending-clause-run
unfolding after_started ending
returns-then-is_ending-clause-run g c =
    let alone = sym c.has.ensures ∙ c.if-has.false in
    let last = sym c.is_ending.ensures ∙ c.if-is_ending.true in
    rw alone (plan_then _ c.in_ok-code.ensures.run (rw last (act_then _ c.close_lost.ensures.run follows_exit)))

use Rattle.std.proofs.Common.{◌∙◌}
use Rattle.el_loops.specs.Loops.{looping_of}
use Rattle.el_loops.specs.Turns.{turn}
use Rattle.el_loops.proofs.Breaks.{plan_as}
use Rattle.el_loops.proofs.TurnsOn.{one_turned, turned_last, all_turned}
use Rattle.el_loops.proofs.turning.make_turns.Goals as goal

pub loop-value-preserved : goal.loop-value-preserved
loop-value-preserved g c = record {
  on = one_turned _ _ _ c.loop-value.invariant.on c.in-Some.ensures.steps.0 (plan_as (λ s. turn (looping_of c.args.each.now s) c.loop-value.all.made.items c.in-Some.value.now) c.loop-value.invariant.state c.in_ok-make_turn.ensures.state c.in_ok-make_turn.ensures.run);
  may = c.in_ok-make_turn.ensures.more;
  state = c.in_ok-make_turn.ensures.state ∙ c.loop-value.invariant.state;
}

pub returns-in_err-make_turn-clause-run : goal.returns-in_err-make_turn-clause-run
returns-in_err-make_turn-clause-run g c =
    rw (c.in_err-make_turn.ensures.state ∙ c.loop-value.invariant.state)
    (turned_last _ _ _ c.loop-value.invariant.on c.in-Some.ensures.steps.0 (plan_as (λ s. turn (looping_of c.args.each.now s) c.loop-value.all.made.items c.in-Some.value.now) c.loop-value.invariant.state c.in_err-make_turn.ensures.state c.in_err-make_turn.ensures.run) c.from_residual.ensures.1)

pub returns-clause-run : goal.returns-clause-run
returns-clause-run g c = rw c.loop-value.invariant.state (all_turned _ _ _ c.loop-value.invariant.on c.in-None.ensures.steps.0.0)

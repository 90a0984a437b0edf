use Rattle.std.proofs.Common.{sym, subst, []}
use Rattle.el_env.specs.Places.{pairs_at}
use Rattle.el_env.proofs.Rising.{AreRead, none_read, one_read, next_rises, all_read}
use Rattle.el_env.proofs.env.inherited.Inherited.of.Goals as goal

pub loop-variable-init : goal.loop-variable-init
loop-variable-init c = subst (λ places. AreRead [] (pairs_at c.in_ok-with_capacity.field-0.items places)) (sym c.in_ok-with_capacity-2.ensures.items) (none_read c.args.variables.now)

pub push-requires-clause-rising : goal.push-requires-clause-rising
push-requires-clause-rising c =
    next_rises _ _ c.variable-item.result _ c.loop-variable-test.true c.variable-item.is c.requires c.loop-variable.invariant

pub loop-variable-preserved : goal.loop-variable-preserved
loop-variable-preserved c =
    one_read _ _ c.variable-item.result _ _ c.loop-variable-test.true c.variable-item.is c.in_ok-push.ensures.ok c.loop-variable.invariant

pub returns-clause-all : goal.returns-clause-all
returns-clause-all c = (all_read c.args.variables.now _ _ c.loop-variable-test.false c.loop-variable.invariant).all

pub returns-clause-no_nul : goal.returns-clause-no_nul
returns-clause-no_nul c = (all_read c.args.variables.now _ _ c.loop-variable-test.false c.loop-variable.invariant).no_nul

use Rattle.std.proofs.Common.{◌∙◌, suc, sym, subst, arith}
use Rattle.el_world.specs.Log.{events_of}
use Rattle.el_trace.specs.Agreeing.{AgreeUpto}
use Rattle.el_trace.proofs.Agreement.{agree_over, agree_no_more, agree_on}
use Rattle.std.proofs.Common.{true≢false}
use Rattle.el_trace.proofs.agreeing.common_length.Goals as goal

pub returns-then-not-branch : goal.returns-then-not-branch
returns-then-not-branch c =
    let ones = events_of c.args.one.now in
    let others = events_of c.args.other.now in
    subst (λ at. AgreeUpto at ones others) (omega arith)
    (c.loop-place.invariant 0 (agree_no_more ones others c.loop-place.place c.in-Some-Some.event.now c.in-Some-Some.found.now c.in-Some-Some.ensures c.in-Some-Some.ensures'
    (λ same. true≢false (sym (c.in_ok-same_event.ensures.1 same) ∙ c.if-not-branch.true))))

pub loop-place-preserved : goal.loop-place-preserved
loop-place-preserved c =
    let ones = events_of c.args.one.now in
    let others = events_of c.args.other.now in
    λ at rest. subst (λ at. AgreeUpto at ones others) (omega arith)
    (c.loop-place.invariant (suc at) (agree_on ones others c.loop-place.place c.in-Some-Some.event.now c.in-Some-Some.found.now c.in-Some-Some.ensures c.in-Some-Some.ensures' (c.in_ok-same_event.ensures.0 c.if-not-branch.false) at rest))

pub returns : goal.returns
returns c =
    let ones = events_of c.args.one.now in
    let others = events_of c.args.other.now in
    subst (λ at. AgreeUpto at ones others) (omega (arith, c.loop-place-test.false, c.loop-place.auto))
    (c.loop-place.invariant 0 (agree_over ones others c.loop-place.place (omega (arith, c.loop-place-test.false, c.min-shorter.ensures, c.len.ensures, c.len-2.ensures))))

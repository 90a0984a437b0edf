use Rattle.std.proofs.Common.{◌+◌, ◌++◌, ap, sym, ◌∙◌, arith, length, append-nil}
use Rattle.el_subst.specs.Pairs.{numbered}
use Rattle.el_subst.proofs.Positions.{numbered-next}
use Rattle.el_subst.proofs.subst.put_args.Goals as goal

pub loop-place-init : goal.loop-place-init
loop-place-init c = (
  omega (arith, ap length c.iter-arg-items.ensures.rest),
  ap (λ args. c.args.pairs.now.items ++ numbered 1 0 args) c.iter-arg-items.ensures.rest,
)

pub overflow_add-place : goal.overflow_add-place
overflow_add-place c = omega (arith, c.iter-arg-items.ensures.few, c.loop-place.invariant.0, ap length c.in-Some.ensures.steps.0)

pub loop-place-preserved : goal.loop-place-preserved
loop-place-preserved c =
    let left = ap length c.in-Some.ensures.steps.0 in (
      omega (arith, c.loop-place.invariant.0, left),
      numbered-next c.loop-place.pairs.items c.push-in-loop-place.new.self.items (c.loop-place.place + 1) c.in_ok-number.number c.in-Some.arg.now c.in_ok-one_word.field-0 c.next.new.self
          c.in_ok-push.ensures.items c.in_ok-number.ensures.text c.in_ok-one_word.ensures
          ∙ ap (λ args. c.loop-place.pairs.items ++ numbered (c.loop-place.place + 1) 0 args) (sym c.in-Some.ensures.steps.0)
          ∙ c.loop-place.invariant.1,
    )

pub returns : goal.returns
returns c =
    sym (ap (λ args. c.loop-place.pairs.items ++ numbered (c.loop-place.place + 1) 0 args) c.in-None.ensures.steps.0.0 ∙ append-nil c.loop-place.pairs.items) ∙ c.loop-place.invariant.1

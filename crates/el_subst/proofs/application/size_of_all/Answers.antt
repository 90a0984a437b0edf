use Rattle.std.proofs.Common.{arith, ap, ◌∙◌, slice_range}
use Rattle.el_subst.specs.Values.{word_value}
use Rattle.el_subst.specs.Sizes.{size_of}
use Rattle.el_subst.proofs.Staying.{Changed-next, Changed-last, Counts-next, Counts-last}
use Rattle.el_subst.proofs.application.size_of_all.Goals as goal

pub overflow_add-from : goal.overflow_add-from
overflow_add-from c =
    let next = Changed-next c.args.lookup.now c.args.words.now c.loop-place.from c.args.changed.now c.loop-place.place-index _ c.loop-place-test.true c.loop-place.invariant.changed in
    omega (arith, next.0, c.len-end.ensures.few)

pub loop-place-preserved : goal.loop-place-preserved
loop-place-preserved c =
    let next = Changed-next c.args.lookup.now c.args.words.now c.loop-place.from c.args.changed.now c.loop-place.place-index _ c.loop-place-test.true c.loop-place.invariant.changed in
    record {
      within = omega (arith, next.0);
      counts =
          Counts-next c.args.lookup.now c.args.words.now c.loop-place.from _ c.loop-place.size c.of_part.result c.size_of_values.result c.plus.result c.plus-size.result
          c.loop-place.invariant.counts next.1 next.0 c.of_part.ensures
          (c.size_of_values.ensures ∙ ap (λ word. size_of (word_value c.args.lookup.now word)) c.at.ensures.same) c.plus.ensures c.plus-size.ensures;
      changed = next.2;
    }

pub returns : goal.returns
returns c =
    let stay = Changed-last c.args.lookup.now c.args.words.now c.loop-place.from c.args.changed.now c.loop-place.place-index _ c.loop-place-test.false c.loop-place.invariant.changed in
    Counts-last c.args.lookup.now c.args.words.now c.loop-place.from c.loop-place.size c.of_part-2.result c.plus-2.result c.loop-place.invariant.counts stay
    (c.of_part-2.ensures ∙ ap (λ end. size_of (slice_range c.args.words.now c.loop-place.from end)) c.len-end.ensures.count) c.plus-2.ensures

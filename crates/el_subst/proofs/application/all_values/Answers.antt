use Rattle.std.proofs.Common.{arith, ap, sym, subst, ◌∙◌, ◌++◌, slice_range}
use Rattle.el_words.proofs.Between.{length-slice_range}
use Rattle.el_subst.specs.Values.{word_value}
use Rattle.el_subst.specs.Sizes.{HasRoom, Puts}
use Rattle.el_subst.proofs.Staying.{Changed-next, Changed-last, Puts-part, fits-stays, fits-value, Filled-next, fits-last, Filled-last}
use Rattle.el_subst.proofs.application.all_values.Goals as goal

pub append-requires-clause-fits_words : goal.append-requires-clause-fits_words
append-requires-clause-fits_words c =
    let next = Changed-next c.args.lookup.now c.args.words.now c.loop-place.from c.args.changed.now c.loop-place.place-index _ c.loop-place-test.true c.loop-place.invariant.changed in
    omega (
      arith,
      (fits-stays c.args.lookup.now c.args.words.now c.loop-place.from _ c.loop-place.room c.loop-place.invariant.filled next.1 next.0).words,
      length-slice_range c.args.words.now c.loop-place.from _ next.1.order next.1.within,
    )

pub append-requires-clause-fits_bytes : goal.append-requires-clause-fits_bytes
append-requires-clause-fits_bytes c =
    let next = Changed-next c.args.lookup.now c.args.words.now c.loop-place.from c.args.changed.now c.loop-place.place-index _ c.loop-place-test.true c.loop-place.invariant.changed in
    (fits-stays c.args.lookup.now c.args.words.now c.loop-place.from _ c.loop-place.room c.loop-place.invariant.filled next.1 next.0).bytes

pub put_values-requires-clause-fits : goal.put_values-requires-clause-fits
put_values-requires-clause-fits c =
    let next = Changed-next c.args.lookup.now c.args.words.now c.loop-place.from c.args.changed.now c.loop-place.place-index _ c.loop-place-test.true c.loop-place.invariant.changed in
    let put = Puts-part c.loop-place.room c.append.new.self c.args.words.now c.loop-place.from _ next.1.order next.1.within c.append.ensures.words c.append.ensures.spare_words c.append.ensures.spare_bytes in
    subst (λ word. HasRoom c.append.new.self (word_value c.args.lookup.now word)) (sym c.at.ensures.same)
    (fits-value c.args.lookup.now c.args.words.now c.loop-place.from _ c.loop-place.room c.loop-place.invariant.filled next.1 next.0 c.append.new.self put)

pub overflow_add-from : goal.overflow_add-from
overflow_add-from c =
    let next = Changed-next c.args.lookup.now c.args.words.now c.loop-place.from c.args.changed.now c.loop-place.place-index _ c.loop-place-test.true c.loop-place.invariant.changed in
    omega (arith, next.0, c.len-end.ensures.few)

pub loop-place-preserved : goal.loop-place-preserved
loop-place-preserved c =
    let next = Changed-next c.args.lookup.now c.args.words.now c.loop-place.from c.args.changed.now c.loop-place.place-index _ c.loop-place-test.true c.loop-place.invariant.changed in
    let put = Puts-part c.loop-place.room c.append.new.self c.args.words.now c.loop-place.from _ next.1.order next.1.within c.append.ensures.words c.append.ensures.spare_words c.append.ensures.spare_bytes in
    record {
      filled =
          Filled-next c.args.lookup.now c.args.words.now c.loop-place.from _ c.loop-place.room c.loop-place.invariant.filled next.1 next.0 c.append.new.self c.put_values.new.room put
          (subst (λ word. Puts c.append.new.self c.put_values.new.room (word_value c.args.lookup.now word)) c.at.ensures.same c.in_ok-put_values.ensures);
      changed = next.2;
    }

pub append-requires-2-clause-fits_words : goal.append-requires-2-clause-fits_words
append-requires-2-clause-fits_words c =
    let stay = Changed-last c.args.lookup.now c.args.words.now c.loop-place.from c.args.changed.now c.loop-place.place-index _ c.loop-place-test.false c.loop-place.invariant.changed in
    omega (
      arith,
      (fits-last c.args.lookup.now c.args.words.now c.loop-place.from c.loop-place.room c.loop-place.invariant.filled stay).words,
      c.len-end.ensures.count,
      length-slice_range c.args.words.now c.loop-place.from _ stay.order stay.within,
    )

pub append-requires-2-clause-fits_bytes : goal.append-requires-2-clause-fits_bytes
append-requires-2-clause-fits_bytes c =
    let stay = Changed-last c.args.lookup.now c.args.words.now c.loop-place.from c.args.changed.now c.loop-place.place-index _ c.loop-place-test.false c.loop-place.invariant.changed in
    (subst (λ end. HasRoom c.loop-place.room (slice_range c.args.words.now c.loop-place.from end)) (sym c.len-end.ensures.count)
    (fits-last c.args.lookup.now c.args.words.now c.loop-place.from c.loop-place.room c.loop-place.invariant.filled stay)).bytes

pub returns : goal.returns
returns c =
    let stay = Changed-last c.args.lookup.now c.args.words.now c.loop-place.from c.args.changed.now c.loop-place.place-index _ c.loop-place-test.false c.loop-place.invariant.changed in
    c.into_words.ensures
    ∙ Filled-last c.args.lookup.now c.args.words.now c.loop-place.from c.loop-place.room c.loop-place.invariant.filled stay c.append-2.new.self
    (c.append-2.ensures.words ∙ ap (λ end. c.loop-place.room.words ++ slice_range c.args.words.now c.loop-place.from end) c.len-end.ensures.count)

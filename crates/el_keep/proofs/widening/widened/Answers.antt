use Rattle.el_keep.proofs.Loops.{no-bytes, some-bytes, rest-shorter}
use Rattle.el_keep.proofs.WideTexts.{wide-all, wide-round, wide-end}
use Rattle.el_keep.proofs.widening.widened.Goals as goal

pub loop-plain_left-init : goal.loop-plain_left-init
loop-plain_left-init c = rw c.new-out.ensures (wide-all c.args.plain.now c.args.layout.now c.args.script.now)

pub returns-then-is_empty : goal.returns-then-is_empty
returns-then-is_empty c =
    wide-end c.loop-plain_left.invariant c.first_part-place.ensures.word c.first_part.ensures.gap c.in_ok-append.ensures.ok
    (no-bytes c.first_part-place.result.word.now c.is_empty.result c.is_empty.ensures c.if-is_empty.true)

pub loop-plain_left-preserved : goal.loop-plain_left-preserved
loop-plain_left-preserved c =
    let place = c.first_part-place in
    let some = some-bytes place.result.word.now c.is_empty.result c.is_empty.ensures c.if-is_empty.false in
    wide-round c.loop-plain_left.invariant place.ensures.gap place.ensures.word place.ensures.rest c.first_part-in-loop-plain_left.ensures.gap c.is_added-added.ensures
    c.gap_at.ensures c.in_ok-append-2.ensures.ok c.in_ok-append-3.ensures.ok c.left_at-plain_left.ensures c.left_at-written.ensures some
    (rest-shorter place.result.gap.now place.result.word.now place.result.rest.now c.loop-plain_left.laid.now some place.ensures.whole)

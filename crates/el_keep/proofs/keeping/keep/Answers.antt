use Rattle.std.proofs.Common.{◌++◌, ◌∙◌, ap}
use Rattle.el_keep.specs.declared.seam.Follow.{Follow}
use Rattle.el_keep.specs.Rendered.{rendered}
use Rattle.el_keep.proofs.Loops.{left-all, left-round, left-end, no-bytes, some-bytes, rest-shorter}
use Rattle.el_keep.proofs.keeping.keep.Goals as goal

pub loop-out-init : goal.loop-out-init
loop-out-init c = rw c.new-out.ensures (left-all c.args.layout.now c.args.script.now)

pub returns-then-is_empty : goal.returns-then-is_empty
returns-then-is_empty c =
    left-end c.loop-out.invariant c.first_part-place.ensures.gap c.first_part-place.ensures.word c.first_part-source.ensures.gap
    c.in_ok-seam.ensures c.in_ok-put_gap.ensures (no-bytes c.first_part-place.result.word.now c.is_empty.result c.is_empty.ensures c.if-is_empty.true)

pub loop-out-preserved : goal.loop-out-preserved
loop-out-preserved c =
    let place = c.first_part-place in
    let source = c.first_part-source in
    let some = some-bytes place.result.word.now c.is_empty.result c.is_empty.ensures c.if-is_empty.false in
    left-round c.loop-out.invariant place.ensures.gap place.ensures.word place.ensures.rest source.ensures.gap source.ensures.rest c.in_ok-seam.ensures
    (c.in_ok-put_gap-2.ensures ∙ ap (λ (follow : Follow). c.loop-out.out ++ rendered c.in_ok-seam.seam follow source.result.gap.now) c.of.ensures)
    c.in_ok-append.ensures.ok c.behind_word-seam.ensures some
    (rest-shorter place.result.gap.now place.result.word.now place.result.rest.now c.loop-out.laid.now some place.ensures.whole)

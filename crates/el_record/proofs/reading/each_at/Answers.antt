use Rattle.std.proofs.Common.{◌+◌, ◌-◌, Err, ap, ◌∙◌, arith}
use Rattle.std.proofs.lemmas.Result.{err_from_is_err_and}
use Rattle.el_record.proofs.Read.{fails_so, each_start, each_step, each_gone, each_end}
use Rattle.el_record.proofs.reading.each_at.Goals as goal

pub loop-init : goal.loop-init
loop-init c = each_start _ _ _ _ c.new-words.ensures (omega arith)

pub returns-in_err-word : goal.returns-in_err-word
returns-in_err-word c =
    let p = err_from_is_err_and c.from_residual.result c.from_residual.ensures.1 in
    fails_so _ _ c.in_err-word.field-0.0 _ _ _
    (each_gone _ _ (c.args.count - (c.loop.counter + 1)) _ _ c.loop.invariant (grind (arith, c.loop-test.true)))
    c.in_err-word.ensures.read (p.1 ∙ ap Err p.2)

pub loop-preserved : goal.loop-preserved
loop-preserved c = each_step _ _ _ _ _ _ _ _ c.loop.invariant (grind (arith, c.loop-test.true)) c.in_ok-word.ensures.read c.in_ok-push.ensures.ok

pub returns : goal.returns
returns c = each_end _ _ _ _ c.loop.invariant (grind (arith, c.loop-test.false))

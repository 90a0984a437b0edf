use Rattle.std.proofs.Common.{◌<◌, ◌^◌, length, arith, refl, true≢false, sym}
use Rattle.std.proofs.lemmas.Result.{err_from_is_err_and}
use Rattle.el_transform.proofs.Whole.{no_delimiters, some_delimiter, answer-netstrings, answer-split}
use Rattle.el_transform.proofs.transforming.part.Goals as goal

pub returns-in_err-push : goal.returns-in_err-push
returns-in_err-push c = let p = err_from_is_err_and c.from_residual.result c.from_residual.ensures.1 in rw (p.1, p.2) tt

pub returns-then-is_empty : goal.returns-then-is_empty
returns-then-is_empty c =
    let small : length c.args.bytes.now < 2 ^ 64 = omega arith in
    answer-netstrings c.args.how.now c.args.bytes.now c.read_netstrings.result small c.if-not-how.false (no_delimiters c.args.how.now (c.if-is_empty.ensures.0 refl))
    c.read_netstrings.ensures.ok c.read_netstrings.ensures.bad

pub returns-in_err-split : goal.returns-in_err-split
returns-in_err-split c = let p = err_from_is_err_and c.from_residual-in_err-split.result c.from_residual-in_err-split.ensures.1 in rw (p.1, p.2) tt

pub returns : goal.returns
returns c =
    answer-split c.args.how.now c.args.bytes.now c.in_ok-split.field-0 c.if-not-how.false
    (some_delimiter c.args.how.now (λ empty. true≢false (sym (c.if-is_empty.ensures.1 empty))))
    c.in_ok-split.ensures

use Rattle.std.proofs.Common.{◌+◌, arith}
use Rattle.el_lex.proofs.Digits.{one_digit_more, at_most_three}
use Rattle.el_lex.proofs.base.Base.number.Goals as goal

pub overflow_mul-number : goal.overflow_mul-number
overflow_mul-number c =
    let more = one_digit_more c.loop-digit.number c.radix.result 0 c.loop-digit.digit-index c.loop-digit.invariant.small c.radix.ensures.small (omega arith) (omega arith) in
    let most = at_most_three (c.loop-digit.digit-index + 1) (omega arith) in
    omega (arith, more, most)

pub overflow_add-number : goal.overflow_add-number
overflow_add-number c =
    let more = one_digit_more c.loop-digit.number c.radix.result c.digit_value.result c.loop-digit.digit-index c.loop-digit.invariant.small c.radix.ensures.small c.digit_value.ensures.small (omega arith) in
    let most = at_most_three (c.loop-digit.digit-index + 1) (omega arith) in
    omega (arith, more, most)

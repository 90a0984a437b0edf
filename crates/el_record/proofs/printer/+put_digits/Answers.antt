use Rattle.std.proofs.Common.{◌≡◌, ◌≤◌, ◌<◌, ◌+◌, ◌/◌, ◌%◌, ◌^◌, ℕ, [], append_assoc, vec_len, ◌∷◌, ◌++◌, length, length-append, sym, ap, ◌∙◌, arith}
use Rattle.std.specs.Fmt.{decimal}
use Rattle.std.proofs.lemmas.Fmt.{decimal_digit, decimal_step}
use Rattle.el_record.proofs.printer.+put_digits.Goals as goal

-- a number of two digits or more has one digit more than its tenth
one_more : (n : ℕ) → 10 ≤ n → n < 2 ^ 64 → length (decimal n) ≡ length (decimal (n / 10)) + 1
one_more n many small = ap length (decimal_step n many small) ∙ length-append (decimal (n / 10)) _

pub push_reserved-requires : goal.push_reserved-requires
push_reserved-requires t c = omega (arith, c.requires, ap length (decimal_digit c.args.number c.if-number-lt10.true))

pub returns-then-number-lt10-clause-items : goal.returns-then-number-lt10-clause-items
returns-then-number-lt10-clause-items t c =
    c.push_reserved.ensures.items ∙ ap (λ ds. c.args.bytes.now.items ++ ds) (sym (decimal_digit c.args.number c.if-number-lt10.true))

pub returns-then-number-lt10-clause-len : goal.returns-then-number-lt10-clause-len
returns-then-number-lt10-clause-len t c =
    c.push_reserved.ensures.len ∙ ap (λ ds. vec_len c.args.bytes.now + length ds) (sym (decimal_digit c.args.number c.if-number-lt10.true))

pub put_digits-requires : goal.put_digits-requires
put_digits-requires t c = (omega (arith, c.decreases, c.if-number-lt10.false), omega (arith, c.requires, one_more c.args.number (omega (arith, c.if-number-lt10.false)) (omega (arith, c.ranges.number.fits))))

pub push_reserved-requires-2 : goal.push_reserved-requires-2
push_reserved-requires-2 t c = omega (arith, c.put_digits.ensures.len, c.put_digits.ensures.capacity, c.requires, one_more c.args.number (omega (arith, c.if-number-lt10.false)) (omega (arith, c.ranges.number.fits)))

pub returns-clause-items : goal.returns-clause-items
returns-clause-items t c =
    c.push_reserved-2.ensures.items
    ∙ ap (λ bytes. bytes ++ (48 + c.args.number % 10) ∷ []) c.put_digits.ensures.items
    ∙ append_assoc c.args.bytes.now.items (decimal (c.args.number / 10)) ((48 + c.args.number % 10) ∷ [])
    ∙ ap (λ ds. c.args.bytes.now.items ++ ds) (sym (decimal_step c.args.number (omega (arith, c.if-number-lt10.false)) (omega (arith, c.ranges.number.fits))))

pub returns-clause-len : goal.returns-clause-len
returns-clause-len t c = omega (arith, c.push_reserved-2.ensures.len, c.put_digits.ensures.len, one_more c.args.number (omega (arith, c.if-number-lt10.false)) (omega (arith, c.ranges.number.fits)))

use Rattle.std.proofs.Common.{arith}
use Rattle.std.proofs.lemmas.Fmt.{length-decimal-le}
use Rattle.el_record.proofs.printer.Printer.number.Goals as goal

pub put_digits-requires : goal.put_digits-requires
put_digits-requires c =
    omega (arith, c.in_ok-reserve.ensures.ok, c.in_ok-reserve.ensures.len, length-decimal-le 20 c.args.number (omega arith) (omega (arith, c.ranges.number.fits)) (omega (arith, c.ranges.number.fits)))

pub push_reserved-requires : goal.push_reserved-requires
push_reserved-requires c =
    omega (arith, c.in_ok-reserve.ensures.ok, c.put_digits.ensures.len, c.put_digits.ensures.capacity, length-decimal-le 20 c.args.number (omega arith) (omega (arith, c.ranges.number.fits)) (omega (arith, c.ranges.number.fits)))

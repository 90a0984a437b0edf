use Rattle.std.proofs.Common.{◌≤◌, ◌<◌, ◌^◌, ℕ, length, arith}
use Rattle.std.specs.Fmt.{decimal}
use Rattle.std.proofs.lemmas.Fmt.{length-decimal-le}
use Rattle.el_record.proofs.printer.Printer.netstring.Goals as goal

most : (n : ℕ) → n < 2 ^ 64 → length (decimal n) ≤ 20
most n small = length-decimal-le 20 n (omega arith) (omega arith) (omega arith)

pub put_digits-requires : goal.put_digits-requires
put_digits-requires c = omega (arith, c.in_ok-room.ensures, c.in_ok-reserve.ensures.ok, c.in_ok-reserve.ensures.len, most (length c.args.bytes.now) (omega arith))

pub push_reserved-requires : goal.push_reserved-requires
push_reserved-requires c =
    omega (arith, c.in_ok-room.ensures, c.in_ok-reserve.ensures.ok, c.in_ok-reserve.ensures.len, c.put_digits.ensures.len, c.put_digits.ensures.capacity, most (length c.args.bytes.now) (omega arith))

pub put-requires : goal.put-requires
put-requires c =
    omega (
      arith,
      c.in_ok-room.ensures,
      c.in_ok-reserve.ensures.ok,
      c.in_ok-reserve.ensures.len,
      c.put_digits.ensures.len,
      c.put_digits.ensures.capacity,
      c.push_reserved.ensures.len,
      c.push_reserved.ensures.capacity,
      most (length c.args.bytes.now) (omega arith),
    )

pub push_reserved-requires-2 : goal.push_reserved-requires-2
push_reserved-requires-2 c =
    omega (
      arith,
      c.in_ok-room.ensures,
      c.in_ok-reserve.ensures.ok,
      c.in_ok-reserve.ensures.len,
      c.put_digits.ensures.len,
      c.put_digits.ensures.capacity,
      c.push_reserved.ensures.len,
      c.push_reserved.ensures.capacity,
      c.put.ensures.len,
      c.put.ensures.capacity,
      most (length c.args.bytes.now) (omega arith),
    )

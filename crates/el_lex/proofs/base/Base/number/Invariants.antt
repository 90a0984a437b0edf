use Rattle.std.proofs.Common.{◌≡◌, ◌<◌, ◌^◌, drop}
use Rattle.el_lex.specs.Bytes.{number_in, number_after}
use Rattle.el_lex.specs.Base.{radix}
use Rattle.el_lex.proofs.base.Base.number.Given as goal

abbrev pub invariant-loop-digit : goal.invariant-loop-digit
invariant-loop-digit l = record {
  same : number_after (radix l.self) l.number (drop l.digit-index l.digits) ≡ number_in (radix l.self) l.digits;
  small : l.number < 16 ^ l.digit-index;
}

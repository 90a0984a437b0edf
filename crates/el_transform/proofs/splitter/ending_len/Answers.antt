use Rattle.std.proofs.Common.{arith, ap, sym, length}
use Rattle.std.proofs.lemmas.List.{drop_all}
use Rattle.el_transform.specs.Splitting.{has_delimiter}
use Rattle.el_transform.proofs.Pieces.{none-before}
use Rattle.el_transform.proofs.splitter.ending_len.Goals as goal

pub loop-len-init : goal.loop-len-init
loop-len-init c = record {
  within = omega arith;
  none_behind = ap (has_delimiter c.args.delims.now) (drop_all (length c.args.bytes.now) c.args.bytes.now (omega arith));
}

pub loop-len-preserved : goal.loop-len-preserved
loop-len-preserved c = record {
  within = omega (arith, c.loop-len.invariant.within);
  none_behind = none-before c.args.delims.now c.args.bytes.now c.loop-len.len c.loop-len-test.true c.loop-len.invariant.within (sym c.if-not-has.ensures) c.loop-len.invariant.none_behind;
}

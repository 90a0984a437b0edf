use Rattle.el_transform.proofs.Crunched.{kept-whole}
use Rattle.el_transform.proofs.crunching.crunch_behind.Goals as goal

pub returns : goal.returns
returns c = kept-whole c.args.delims.now c.args.bytes.now c.args.is_behind_delimiter c.loop-byte.kept.items c.loop-byte.is_after_delimiter c.loop-byte.byte-index c.loop-byte-test.false c.loop-byte.invariant

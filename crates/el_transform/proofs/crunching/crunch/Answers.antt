use Rattle.el_transform.proofs.Crunched.{crunched-is}
use Rattle.el_transform.proofs.crunching.crunch.Goals as goal

pub returns : goal.returns
returns c = rw (crunched-is c.args.delims.now c.args.bytes.now) c.crunch_behind.ensures

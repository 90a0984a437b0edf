use Rattle.std.proofs.Common.{[], ◌∷◌}
use Rattle.el_record.proofs.Printed.{puts_behind}
use Rattle.el_record.proofs.printing.put_byte.Goals as goal

pub returns : goal.returns
returns c = puts_behind c.args.out.now (c.args.byte ∷ []) _ c.in_ok-push.ensures

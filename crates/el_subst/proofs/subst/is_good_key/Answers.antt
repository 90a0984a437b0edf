use Rattle.std.proofs.Common.{ap, not, sym, ◌∙◌}
use Rattle.el_subst.proofs.Positions.{is_good_key-some}
use Rattle.el_subst.proofs.subst.is_good_key.Goals as goal

pub returns-then-not-is_empty : goal.returns-then-not-is_empty
returns-then-not-is_empty c = ap not c.ends_keys.ensures ∙ sym (is_good_key-some c.args.key.now c.if-not-is_empty.ensures)

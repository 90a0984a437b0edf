use Rattle.std.proofs.Common.{sym, ◌∙◌}
use Rattle.el_transform.proofs.Split.{split_behind-splits}
use Rattle.el_transform.proofs.laws.splitting_is_one.Goals as goal

pub returns : goal.returns
returns c = λ delims value words others splits splits'. sym (split_behind-splits splits) ∙ split_behind-splits splits'

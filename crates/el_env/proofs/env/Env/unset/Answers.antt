use Rattle.std.proofs.Common.{◌∙◌}
use Rattle.el_env.proofs.Tables.{untabled-remove}
use Rattle.el_env.proofs.env.Env.unset.Goals as goal

pub returns-in_default : goal.returns-in_default
returns-in_default c = c.self.view_is ∙ untabled-remove _ _ c.args.name.now c.self.view_is c.in_default.is

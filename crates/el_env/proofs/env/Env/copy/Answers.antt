use Rattle.std.proofs.Common.{◌∙◌}
use Rattle.el_env.proofs.Tables.{untabled}
use Rattle.el_env.proofs.env.Env.copy.Goals as goal

pub returns-in_default : goal.returns-in_default
returns-in_default c = c.new.ensures ∙ untabled _ _ c.self.view_is c.in_default.is

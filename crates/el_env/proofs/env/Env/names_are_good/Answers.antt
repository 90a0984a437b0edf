use Rattle.std.proofs.Common.{subst}
use Rattle.el_env.specs.Name.{NamesAreGood}
use Rattle.el_env.proofs.Tables.{tabled-value, untabled-good}
use Rattle.el_env.proofs.env.Env.names_are_good.Goals as goal

pub returns-in_default : goal.returns-in_default
returns-in_default c = untabled-good _ _ c.self.view_is c.in_default.is

pub returns : goal.returns
returns c = subst NamesAreGood (tabled-value _ _ _ _ c.self.view_is c.in-Some.is c.deref.ensures) c.names_are_good.ensures

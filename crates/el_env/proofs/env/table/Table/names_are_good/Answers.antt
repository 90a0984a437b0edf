use Rattle.std.proofs.Common.{subst}
use Rattle.el_env.specs.Name.{NamesAreGood}
use Rattle.el_env.proofs.env.table.Table.names_are_good.Goals as goal

pub returns : goal.returns
returns c = subst NamesAreGood c.self.view_is c.self.invariant

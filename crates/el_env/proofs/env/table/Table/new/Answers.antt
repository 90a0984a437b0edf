use Rattle.std.proofs.Common.{subst, sym}
use Rattle.el_env.specs.Name.{NamesAreGood}
use Rattle.el_env.proofs.Named.{vars_of}
use Rattle.el_env.proofs.GoodNames.{NamesAreGood-empty}
use Rattle.el_env.proofs.env.table.Table.new.Goals as goal

pub returns : goal.returns
returns c = λ i. vars_of (c.new.ensures.empty i) (c.new-2.ensures i)

pub invariant_of-result : goal.invariant_of-result
invariant_of-result c = subst NamesAreGood (λ i. vars_of (sym c.new.ensures.empty i) (sym c.new-2.ensures i)) NamesAreGood-empty

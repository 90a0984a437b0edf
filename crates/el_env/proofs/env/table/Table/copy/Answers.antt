use Rattle.std.proofs.Common.{◌∙◌, ◌++◌, sym, subst}
use Rattle.std.specs.FinMap as map
use Rattle.el_env.specs.Name.{NamesAreGood}
use Rattle.el_env.proofs.Named.{named-clones}
use Rattle.el_env.proofs.env.table.Table.copy.Goals as goal

pub returns : goal.returns
returns c = (λ i. map.from_entries (named-clones _ _ c.in_ok-clone.ensures.cases i ++ c.in_ok-copy.ensures i)) ∙ c.self.view_is

pub invariant_of-result : goal.invariant_of-result
invariant_of-result c =
    subst NamesAreGood (sym (λ i. map.from_entries (named-clones _ _ c.in_ok-clone.ensures.cases i ++ c.in_ok-copy.ensures i))) c.self.invariant

use Rattle.std.proofs.Common.{ap, ◌∙◌, sym, subst}
use Rattle.std.specs.FinMap as map
use Rattle.el_env.specs.Vars.{Vars}
use Rattle.el_env.specs.Name.{NamesAreGood}
use Rattle.el_env.proofs.Named.{vars_of-remove}
use Rattle.el_env.proofs.GoodNames.{NamesAreGood-remove}
use Rattle.el_env.proofs.env.table.Table.remove.Goals as goal

pub returns : goal.returns
returns c =
    let by = c.swap_remove.ensures.updates in
    vars_of-remove _ _ _ _ c.args.name.now by.1 by.3 c.remove.ensures.gone c.remove.ensures.others ∙ ap (λ (m : Vars). map.remove m c.args.name.now) c.self.view_is

pub invariant_of-self : goal.invariant_of-self
invariant_of-self c =
    let by = c.swap_remove.ensures.updates in
    subst NamesAreGood (sym (vars_of-remove _ _ _ _ c.args.name.now by.1 by.3 c.remove.ensures.gone c.remove.ensures.others)) (NamesAreGood-remove _ c.args.name.now c.self.invariant)

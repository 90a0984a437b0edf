use Rattle.std.proofs.Common.{sym, ap, ◌∙◌, subst}
use Rattle.std.specs.FinMap as map
use Rattle.el_env.specs.Vars.{Vars}
use Rattle.el_env.specs.Name.{NamesAreGood}
use Rattle.el_env.proofs.Named.{vars_of, vars_of-insert}
use Rattle.el_env.proofs.GoodNames.{NamesAreGood-insert}
use Rattle.el_env.proofs.env.table.Table.insert.Goals as goal

pub returns-clause-ok : goal.returns-clause-ok
returns-clause-ok c =
    ap (λ es. vars_of es c.self.inside.inherited) c.in_ok-insert.ensures.entries
    ∙ vars_of-insert c.self.inside.vars.entries c.self.inside.inherited c.args.name c.args.value
    ∙ ap (λ (m : Vars). map.insert m c.args.name.items c.args.value) c.self.view_is

pub invariant_of-self-2 : goal.invariant_of-self-2
invariant_of-self-2 c =
    let inserted = ap (λ es. vars_of es c.self.inside.inherited) c.in_ok-insert.ensures.entries
    ∙ vars_of-insert c.self.inside.vars.entries c.self.inside.inherited c.args.name c.args.value in
    subst NamesAreGood (sym inserted) (NamesAreGood-insert _ c.args.name.items c.args.value c.requires c.self.invariant)

use Rattle.std.proofs.Common.{ap, ◌∙◌, Some}
use Rattle.std.specs.FinMap as map
use Rattle.el_env.specs.Vars.{Vars}
use Rattle.el_env.proofs.Named.{get_set, get_unset}
use Rattle.el_env.proofs.env.table.Table.get.Goals as goal

pub returns-in-Some-clause-value : goal.returns-in-Some-clause-value
returns-in-Some-clause-value c =
    ap (λ v. Some v) c.as_bytes.ensures.same ∙ get_set c.args.name.now c.self.inside.vars.entries c.self.inside.inherited _ c.in-Some.ensures.value
    ∙ ap (λ (m : Vars). map.get m c.args.name.now) c.self.view_is

pub returns-in-None-clause-value : goal.returns-in-None-clause-value
returns-in-None-clause-value c =
    get_unset c.args.name.now c.self.inside.vars.entries c.self.inside.inherited _ c.in-None.ensures.value c.get-in-None.ensures.value
    ∙ ap (λ (m : Vars). map.get m c.args.name.now) c.self.view_is

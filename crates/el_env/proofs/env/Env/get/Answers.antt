use Rattle.std.proofs.Common.{ap, ◌∙◌}
use Rattle.std.specs.FinMap as map
use Rattle.el_env.specs.Vars.{Vars}
use Rattle.el_env.proofs.Tables.{tabled-value, untabled-get}
use Rattle.el_env.proofs.env.Env.get.Goals as goal

pub returns-in-Some-clause-value : goal.returns-in-Some-clause-value
returns-in-Some-clause-value c =
    c.get.ensures.value ∙ ap (λ (m : Vars). map.get m c.args.name.now) (tabled-value _ _ _ _ c.self.view_is c.in-Some.is c.deref.ensures)

pub returns-in-None-clause-value : goal.returns-in-None-clause-value
returns-in-None-clause-value c = untabled-get _ _ c.args.name.now c.self.view_is c.in-None.is

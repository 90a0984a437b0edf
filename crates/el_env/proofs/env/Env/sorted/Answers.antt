use Rattle.std.proofs.Common.{◌≡◌, IfOk, ap, ◌∙◌, subst, map as mapped}
use Rattle.std.specs.FinMap as map
use Rattle.el_env.specs.Vars.{Vars}
use Rattle.el_env.specs.Variable.{pair_of}
use Rattle.el_env.proofs.Tables.{tabled-value, untabled-entries}
use Rattle.el_env.proofs.env.Env.sorted.Goals as goal

pub returns-in-Some : goal.returns-in-Some
returns-in-Some c =
    subst (λ (m : Vars). IfOk c.sorted.result (λ sorted. mapped pair_of sorted.items ≡ map.entries m))
    (tabled-value _ _ _ _ c.self.view_is c.in-Some.is c.deref.ensures) c.sorted.ensures

pub returns-in-None : goal.returns-in-None
returns-in-None c = ap (mapped pair_of) c.new.ensures.items ∙ untabled-entries _ _ c.self.view_is c.in-None.is

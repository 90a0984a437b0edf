use Rattle.std.proofs.Common.{sym, ◌∙◌, subst}
use Rattle.std.specs.FinMap as map
use Rattle.el_env.specs.Name.{IsName}
use Rattle.el_env.proofs.Arguments.{OnOk-then}
use Rattle.el_env.proofs.env.Env.put.Goals as goal

pub store-requires : goal.store-requires
store-requires c =
    subst IsName (sym (c.in_ok-name.ensures.items_if_clones_equal (λ x y e. e))) c.requires.name

pub returns-clause-ok : goal.returns-clause-ok
returns-clause-ok c = OnOk-then c.store.result
    (λ set. set ∙ (λ i. map.insert c.args.self.now (c.in_ok-name.ensures.items_if_clones_equal (λ x y e. e) i) (c.in_ok-value.ensures i))) c.store.ensures.ok

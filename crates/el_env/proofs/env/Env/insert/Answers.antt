use Rattle.std.proofs.Common.{ap, sym, ◌∙◌, subst}
use Rattle.std.specs.FinMap as map
use Rattle.el_env.specs.Name.{IsName}
use Rattle.el_env.proofs.Arguments.{OnOk-then}
use Rattle.el_env.proofs.env.Env.insert.Goals as goal

pub store-requires : goal.store-requires
store-requires c =
    subst IsName (sym (c.in_ok-name.ensures.items_if_clones_equal (λ x y e. e))) (record { no_nul = c.requires.no_nul; good = c.requires.good })

pub returns-clause-ok : goal.returns-clause-ok
returns-clause-ok c = OnOk-then c.store.result
    (λ set. set ∙ ap (λ name. map.insert c.args.self.now name c.args.value) (c.in_ok-name.ensures.items_if_clones_equal (λ x y e. e))) c.store.ensures.ok

use Rattle.std.proofs.Common.{T, ap, ◌∙◌, sym, subst, map as mapped}
use Rattle.std.proofs.lemmas.Result.{err_from_is_err_and}
use Rattle.std.specs.Ordering.{nat_cmp}
use Rattle.std.specs.Cmp.Lexicographic.{slice_cmp}
use Rattle.std.specs.FinMap as map
use Rattle.std.specs.FinMap.{is_sorted}
use Rattle.el_env.specs.Variable.{pair_of}
use Rattle.el_env.proofs.Lent.{next_lent, none_next}
use Rattle.el_env.proofs.GoodNames.{item_is_good}
use Rattle.el_env.proofs.Frames.{none_pushed, one_pushed, all_pushed, all_pushed-not_deep, deep_met, pushed_is_name}
use Rattle.el_env.proofs.env.Env.pushed.Goals as goal

pub loop-variable-init : goal.loop-variable-init
loop-variable-init c =
    let entries = ap (mapped pair_of) c.deref-variable-items.ensures.value ∙ c.in_ok-variables.ensures in
    none_pushed _ _ (subst (λ ps. T (is_sorted (slice_cmp nat_cmp) ps)) (sym entries) (map.entries_sorted c.args.self.now)) c.new-pushed.ensures

pub store-requires : goal.store-requires
store-requires c =
    let entries = ap (mapped pair_of) c.deref-variable-items.ensures.value ∙ c.in_ok-variables.ensures in
    pushed_is_name _ _ c.in_ok-name.ensures.name c.in_ok-name.ensures.not_deep
    (item_is_good c.args.self.now _ _ c.variable-item.result c.loop-variable-test.true c.variable-item.is entries c.names_are_good.ensures)

pub loop-variable-preserved : goal.loop-variable-preserved
loop-variable-preserved c =
    one_pushed _ _ _ _ _ c.variable-item.result.name.now c.variable-item.result.value.now c.in_ok-name.name.items
    (next_lent _ _ c.variable-item.result c.loop-variable-test.true c.variable-item.is)
    (c.in_ok-store.ensures.ok ∙ ap (map.insert c.loop-variable.pushed c.in_ok-name.name.items) c.in_ok-of.ensures)
    c.in_ok-name.ensures.name c.in_ok-name.ensures.not_deep c.loop-variable.invariant

pub returns-clause-ok : goal.returns-clause-ok
returns-clause-ok c =
    let entries = ap (mapped pair_of) c.deref-variable-items.ensures.value ∙ c.in_ok-variables.ensures in
    all_pushed _ _ _ _ entries (none_next _ _ c.loop-variable-test.false) c.loop-variable.invariant

pub returns-clause-not_deep : goal.returns-clause-not_deep
returns-clause-not_deep c =
    let entries = ap (mapped pair_of) c.deref-variable-items.ensures.value ∙ c.in_ok-variables.ensures in
    all_pushed-not_deep _ _ _ _ entries (none_next _ _ c.loop-variable-test.false) c.loop-variable.invariant

pub returns-in_err-name-clause-deep : goal.returns-in_err-name-clause-deep
returns-in_err-name-clause-deep c = λ deep.
    let entries = ap (mapped pair_of) c.deref-variable-items.ensures.value ∙ c.in_ok-variables.ensures in
    let p = err_from_is_err_and c.from_residual-in_err-name.result c.from_residual-in_err-name.ensures.1 in
    deep_met _ _ _ _ _ c.variable-item.result.name.now c.variable-item.result.value.now entries
    (next_lent _ _ c.variable-item.result c.loop-variable-test.true c.variable-item.is) c.loop-variable.invariant
    (c.in_err-name.ensures.deep (cc (sym p.1 ∙ deep, p.2)))

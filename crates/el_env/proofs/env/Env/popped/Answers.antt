use Rattle.std.proofs.Common.{T, ap, ◌∙◌, sym, subst, map as mapped}
use Rattle.std.specs.Option.{option_map}
use Rattle.std.specs.Ordering.{nat_cmp}
use Rattle.std.specs.Cmp.Lexicographic.{slice_cmp}
use Rattle.std.specs.FinMap as map
use Rattle.std.specs.FinMap.{is_sorted}
use Rattle.el_env.specs.Variable.{pair_of}
use Rattle.el_env.proofs.Lent.{next_lent, none_next}
use Rattle.el_env.proofs.GoodNames.{item_is_good}
use Rattle.el_env.proofs.Frames.{IsPopping, none_popped, one_popped, one_dropped, all_popped, popped_is_name}
use Rattle.el_env.proofs.env.Env.popped.Goals as goal
use Rattle.el_env.proofs.env.Env.popped.Goals.{in-Some+in_ok-of+in_ok-store, in_default}

pub loop-variable-init : goal.loop-variable-init
loop-variable-init c =
    let entries = ap (mapped pair_of) c.deref-variable-items.ensures.value ∙ c.in_ok-variables.ensures in
    none_popped _ _ (subst (λ ps. T (is_sorted (slice_cmp nat_cmp) ps)) (sym entries) (map.entries_sorted c.args.self.now)) c.new-popped.ensures

pub store-requires : goal.store-requires
store-requires c =
    let entries = ap (mapped pair_of) c.deref-variable-items.ensures.value ∙ c.in_ok-variables.ensures in
    popped_is_name c.variable-item.result.name.now _ (sym (ap (option_map (λ t. t.items)) c.in-Some.is) ∙ c.in_ok-name.ensures)
    (item_is_good c.args.self.now _ _ c.variable-item.result c.loop-variable-test.true c.variable-item.is entries c.names_are_good.ensures)

pub loop-variable-preserved : goal.loop-variable-preserved
loop-variable-preserved c =
    let next = next_lent _ _ c.variable-item.result c.loop-variable-test.true c.variable-item.is in
    elim c.match-branch-3.branch [
      | in-Some+in_ok-of+in_ok-store w ↦
          one_popped _ _ _ _ _ c.variable-item.result.name.now c.variable-item.result.value.now w.in-Some.name.items next
          (w.popped-is ∙ w.in_ok-store.ensures.ok ∙ ap (map.insert c.loop-variable.popped w.in-Some.name.items) w.in_ok-of.ensures)
          (sym (ap (option_map (λ t. t.items)) w.in-Some.is) ∙ c.in_ok-name.ensures) c.loop-variable.invariant
      | in_default w ↦
          subst (IsPopping _ _) (sym w.popped-is)
          (one_dropped _ _ _ _ c.variable-item.result.name.now c.variable-item.result.value.now next
          (sym (ap (option_map (λ t. t.items)) w.in_default.is) ∙ c.in_ok-name.ensures) c.loop-variable.invariant)
    ]

pub returns : goal.returns
returns c =
    let entries = ap (mapped pair_of) c.deref-variable-items.ensures.value ∙ c.in_ok-variables.ensures in
    all_popped _ _ _ _ entries (none_next _ _ c.loop-variable-test.false) c.loop-variable.invariant

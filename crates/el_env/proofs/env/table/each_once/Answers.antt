use Rattle.std.proofs.Common.{rules}
use Rattle.std.proofs.lemmas.List.Sorted.{answers_always}
use Rattle.std.proofs.lemmas.Fn.{dedup_same}
use Rattle.el_env.specs.declared.env.variable.Variable.{Variable}
use Rattle.el_env.proofs.Sorted.{same, entries-sorted}
use Rattle.el_env.proofs.env.table.each_once.Goals as goal

pub returns : goal.returns
returns c =
    entries-sorted (λ (v : Variable). v.name.now) (λ (v : Variable). v.value.now) c.args.variables.items _ _
    (c.in_ok-sort_by_key.ensures.sorted (λ (v : Variable). v.name) (answers_always _ _ _ (λ f a r g h. search rules)))
    (c.in_ok-sort_by_key.ensures.stable (λ (v : Variable). v.name) (answers_always _ _ _ (λ f a r g h. search rules)))
    (dedup_same _ (same (λ (v : Variable). v.name.now) (λ (v : Variable). v.value.now)) _ (λ x y b f x2 y2 k. search rules) _ _ c.dedup_by_key.ensures.filtered)

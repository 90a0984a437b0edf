use Rattle.std.proofs.Common.{rules, ap, ◌∙◌, subst, map as mapped}
use Rattle.std.proofs.lemmas.List.Sorted.{answers_always}
use Rattle.el_env.specs.Variable.{pair_of}
use Rattle.el_env.specs.declared.env.variable.Variable.{Variable}
use Rattle.el_env.proofs.Rising.{IsFound, IsBetween, placed-found, placed-between}
use Rattle.el_env.proofs.env.table.put_in_order.Goals as goal

pub returns-in-Ok : goal.returns-in-Ok
returns-in-Ok c =
    let found : IsFound c.deref.result.now c.in-Ok.at c.args.variable = record {
      bound = c.in-Ok.ensures.bound;
      there = c.in-Ok.ensures.position (λ (v : Variable). v.name) (answers_always _ _ _ (λ f a r g h. search rules));
    } in
    placed-found _ _ _ c.requires (subst (λ vs. IsFound vs c.in-Ok.at c.args.variable) c.deref.ensures.value found)

pub returns-in_ok-insert-in-Err : goal.returns-in_ok-insert-in-Err
returns-in_ok-insert-in-Err c =
    let between : IsBetween c.deref.result.now c.in-Err.at c.args.variable = record {
      bound = c.in-Err.ensures.bound;
      parts = c.in-Err.ensures.position (λ (v : Variable). v.name) (answers_always _ _ _ (λ f a r g h. search rules));
    } in
    ap (mapped pair_of) c.in_ok-insert-in-Err.ensures.items
    ∙ placed-between _ _ _ c.requires (subst (λ vs. IsBetween vs c.in-Err.at c.args.variable) c.deref.ensures.value between)

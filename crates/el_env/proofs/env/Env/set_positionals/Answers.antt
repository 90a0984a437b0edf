use Rattle.std.proofs.Common.{◌+◌, ap, ◌∙◌, refl, sym, subst, arith, codes}
use Rattle.std.specs.FinMap as map
use Rattle.el_env.specs.Vars.{Vars}
use Rattle.el_env.specs.Name.{IsName}
use Rattle.el_env.proofs.GoodNames.{IsName-decimal}
use Rattle.el_env.proofs.Arguments.{none_set, one_set, next_is_word, next_is_counted, all_set, all_set-others, OnOk-then, either_way}
use Rattle.el_env.proofs.env.Env.set_positionals.Goals as goal

pub loop-arg-init : goal.loop-arg-init
loop-arg-init c =
    none_set _ _ c.args.zero.now _ _ c.into_iter-arg-iterator.ensures.into_iter_gives.0 c.into_iter-arg-iterator.ensures.into_iter_gives.2
    (c.in_ok-put.ensures.ok ∙ ap (map.insert c.args.self.now (codes "0")) c.as_bytes.ensures.same)

pub overflow_add-number : goal.overflow_add-number
overflow_add-number c =
    omega (arith, c.into_iter-arg-iterator.ensures.into_iter_gives.1, next_is_counted _ _ _ _ _ _ _ _ c.in-Some.ensures.steps.0 c.loop-arg.invariant)

pub put-requires-in-loop-arg-clause-name : goal.put-requires-in-loop-arg-clause-name
put-requires-in-loop-arg-clause-name c =
    subst IsName (sym (c.as_bytes-in-loop-arg.ensures.same ∙ c.in_ok-name.ensures.text))
    (IsName-decimal (c.loop-arg.number + 1)
    (omega (arith, c.into_iter-arg-iterator.ensures.into_iter_gives.1, next_is_counted _ _ _ _ _ _ _ _ c.in-Some.ensures.steps.0 c.loop-arg.invariant)))

pub put-requires-in-loop-arg-clause-value : goal.put-requires-in-loop-arg-clause-value
put-requires-in-loop-arg-clause-value c = next_is_word _ _ _ _ _ _ _ _ c.in-Some.ensures.steps.0 c.loop-arg.invariant

pub loop-arg-preserved : goal.loop-arg-preserved
loop-arg-preserved c =
    one_set _ _ _ _ _ _ _ _ _ _ _ c.in-Some.ensures.steps.0 (c.as_bytes-in-loop-arg.ensures.same ∙ c.in_ok-name.ensures.text) refl c.in_ok-put-2.ensures.ok c.loop-arg.invariant

pub loop-arg-preserved-in_ok-put-2 : goal.loop-arg-preserved-in_ok-put-2
loop-arg-preserved-in_ok-put-2 c =
    one_set _ _ _ _ _ _ _ _ _ _ _ c.in-Some.ensures.steps.0 (c.as_bytes-in-loop-arg.ensures.same ∙ c.in_ok-name.ensures.text) refl c.in_ok-put-2.ensures.ok c.loop-arg.invariant

pub returns-clause-ok : goal.returns-clause-ok
returns-clause-ok c = OnOk-then c.put-2.result
    (λ set. all_set _ _ _ _ _ _ _ _ _ (c.in_ok-put.ensures.ok ∙ ap (map.insert c.args.self.now (codes "0")) c.as_bytes.ensures.same)
    c.in-None.ensures.steps.0.0 (c.as_bytes-2.ensures.same ∙ c.in_ok-count.ensures.text) set c.loop-arg.invariant) c.put-2.ensures.ok

pub returns-clause-others : goal.returns-clause-others
returns-clause-others c = λ name other. either_way c.put-2.result
    (λ set. all_set-others _ _ _ _ _ _ _ _ set c.loop-arg.invariant name other)
    (λ same. ap (λ (m : Vars). map.get m name) same ∙ c.loop-arg.invariant.others name other) c.put-2.ensures.ok c.put-2.ensures.err

pub returns-in_err-name-clause-others : goal.returns-in_err-name-clause-others
returns-in_err-name-clause-others c = c.loop-arg.invariant.others

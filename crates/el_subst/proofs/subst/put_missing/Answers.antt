use Rattle.std.proofs.Common.{◌≡◌, ℕ, ◌+◌, ◌-◌, List, [], ◌∷◌, ◌++◌, ap, sym, ◌∙◌, append_assoc, arith}
use Rattle.std.specs.Fmt.{decimal}
use Rattle.el_subst.specs.Values.{Pairs}
use Rattle.el_subst.specs.Pairs.{numbered}
use Rattle.el_subst.proofs.Positions.{numbered-missing}
use Rattle.el_subst.proofs.subst.put_missing.Goals as goal

pub loop-number-preserved : goal.loop-number-preserved
loop-number-preserved c =
    let so_far = c.loop-number.number - c.args.count in
    let from = c.loop-number.auto.number in
    let e : c.loop-number.number + 1 ≡ c.args.count + 1 + so_far = omega arith in
    let f : so_far + 1 ≡ c.loop-number.number + 1 - c.args.count = omega arith in (
      omega arith,
      c.in_ok-push.ensures.items
          ∙ ap (λ (pairs : Pairs). pairs ++ (c.in_ok-put_u64.field-0, c.in_ok-one_word.field-0) ∷ []) c.loop-number.invariant.1
          ∙ append_assoc c.args.pairs.now.items (numbered (c.args.count + 1) so_far []) ((c.in_ok-put_u64.field-0, c.in_ok-one_word.field-0) ∷ [])
          ∙ ap (λ (pairs : Pairs). c.args.pairs.now.items ++ pairs)
          (ap (λ (number : List ℕ). numbered (c.args.count + 1) so_far [] ++ (number, c.in_ok-one_word.field-0) ∷ []) (c.in_ok-put_u64.ensures.text ∙ ap decimal e)
          ∙ ap (λ (value : List (List ℕ)). numbered (c.args.count + 1) so_far [] ++ (decimal (c.args.count + 1 + so_far), value) ∷ [])
          c.in_ok-one_word.ensures
          ∙ sym (numbered-missing (c.args.count + 1) so_far)
          ∙ ap (λ more. numbered (c.args.count + 1) more []) f),
    )

pub returns : goal.returns
returns c =
    let low = c.loop-number.auto.number in
    let high = c.loop-number.invariant.0 in
    let all : c.loop-number.number - c.args.count ≡ c.args.least - c.args.count = omega arith in
    c.loop-number.invariant.1 ∙ ap (λ more. c.args.pairs.now.items ++ numbered (c.args.count + 1) more []) all

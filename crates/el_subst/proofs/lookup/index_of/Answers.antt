use Rattle.std.proofs.Common.{◌≡◌, ◌<◌, ◌+◌, ◌-◌, ℕ, List, [], length, drop, arith, sym, ◌∙◌, subst, ap}
use Rattle.std.proofs.lemmas.Grind.{common_steps}
use Rattle.el_subst.proofs.Lookups.{IsIndexFrom, IsIndexFrom-none, IsIndexFrom-more, IsIndex-from}
use Rattle.el_subst.proofs.lookup.index_of.Goals as goal

pub loop-place-init : goal.loop-place-init
loop-place-init c =
    let none : drop (length c.args.pairs.now) c.args.pairs.now ≡ [] = grind (arith, common_steps) in
    subst (IsIndexFrom c.args.pairs.now (length c.args.pairs.now)) (sym c.in_ok-index.ensures.empty) (IsIndexFrom-none c.args.pairs.now _ none)

pub loop-place-preserved : goal.loop-place-preserved
loop-place-preserved c =
    let pairs = c.args.pairs.now in
    let most = c.loop-place.auto.place in
    let within : c.loop-place.place - 1 < length c.args.pairs.now = omega arith in
    let next : c.loop-place.place ≡ c.loop-place.place - 1 + 1 = omega arith in
    let name : List ℕ × List (List ℕ) → List ℕ = λ pair. pair.0 in
    subst (IsIndexFrom pairs (c.loop-place.place - 1)) (sym c.in_ok-insert.ensures.entries)
    (IsIndexFrom-more pairs (c.loop-place.place - 1) c.loop-place.index.entries c.in_ok-key.key c.index-pairs-place.result within c.index-pairs-place.is
    (c.in_ok-key.ensures.items_if_clones_equal (λ x y e. e) ∙ c.as_bytes.ensures.same ∙ ap name (sym c.index-pairs-place.is))
    (subst (λ n. IsIndexFrom pairs n c.loop-place.index.entries) next c.loop-place.invariant))

pub returns : goal.returns
returns c =
    let all : c.loop-place.place ≡ 0 = omega arith in
    IsIndex-from c.args.pairs.now c.loop-place.index.entries (subst (λ n. IsIndexFrom c.args.pairs.now n c.loop-place.index.entries) all c.loop-place.invariant)

use Rattle.std.proofs.Common.{◌≤◌, ◌<◌, ◌+◌, ◌-◌, [], ◌∷◌, ap, sym, ◌∙◌, arith, take, drop, length, length-take, length-drop}
use Rattle.std.specs.Option.{option_copied}
use Rattle.el_subst.specs.Values.{products}
use Rattle.el_subst.specs.Pieces.{piece_choices, part_choices}
use Rattle.el_subst.proofs.Values.{Stays-none, Stays-end, Stays-next, value-found, none-found}
use Rattle.el_subst.proofs.paired.next_paired.Goals as goal

pub loop-place-init : goal.loop-place-init
loop-place-init c = Stays-none c.args.lookup.now c.args.bytes.now

pub slice_bounds-of-count : goal.slice_bounds-of-count
slice_bounds-of-count c =
    let within : c.slashes_before-slashes.result ≤ c.in-Some.place =
    (value-found c.args.lookup.now c.args.bytes.now c.loop-place.start c.in-Some.place c.pair_after-count.result.0 c.slashes_before-slashes.result (piece_choices c.in-Some-replaced.piece)
    c.loop-place.invariant c.in-Some.ensures c.pair_after-count.ensures.count c.slashes_before-slashes.ensures (option_copied c.pair_after-count.result.1) c.pair_after-count.ensures.value
    c.in-Some-replaced.ensures).0 in
    omega arith

pub returns-in-Some-replaced-clause-some : goal.returns-in-Some-replaced-clause-some
returns-in-Some-replaced-clause-some c =
    let end = c.loop-place.start + c.in-Some.place + 1 + c.pair_after-count.result.0 in
    (value-found c.args.lookup.now c.args.bytes.now c.loop-place.start c.in-Some.place c.pair_after-count.result.0 c.slashes_before-slashes.result (piece_choices c.in-Some-replaced.piece)
    c.loop-place.invariant c.in-Some.ensures c.pair_after-count.ensures.count c.slashes_before-slashes.ensures (option_copied c.pair_after-count.result.1) c.pair_after-count.ensures.value
    c.in-Some-replaced.ensures).1
    ∙ (λ i. products ((sym c.of.ensures i ∷ []) ∷ piece_choices c.in-Some-replaced.piece ∷ part_choices c.args.lookup.now (take (length c.args.bytes.now - end) (drop end c.args.bytes.now))))

pub loop-place-preserved : goal.loop-place-preserved
loop-place-preserved c =
    let start = c.loop-place.start in
    let dollar = c.loop-place.start + c.in-Some.place + 1 in
    let found : c.in-Some.place < length (take (length c.args.bytes.now - start) (drop start c.args.bytes.now)) = c.in-Some.ensures.0.high in
    let within : dollar + c.pair_after-count.result.0 ≤ length c.args.bytes.now =
    omega (
      arith,
      c.pair_after-count.ensures.within,
      length-take (length c.args.bytes.now - dollar) (drop dollar c.args.bytes.now),
      length-drop dollar c.args.bytes.now,
      found,
      length-take (length c.args.bytes.now - start) (drop start c.args.bytes.now),
      length-drop start c.args.bytes.now,
    ) in
    let none = sym c.pair_after-count.ensures.value ∙ none-found _ _ (option_copied c.pair_after-count.result.1) c.in_default-replaced.ensures in
    Stays-next c.args.lookup.now c.args.bytes.now c.loop-place.start c.in-Some.place c.pair_after-count.result.0
    c.loop-place.invariant c.in-Some.ensures c.pair_after-count.ensures.count none within

pub returns-clause-none : goal.returns-clause-none
returns-clause-none c = Stays-end c.args.lookup.now c.args.bytes.now c.loop-place.start c.loop-place.invariant c.in_default.ensures

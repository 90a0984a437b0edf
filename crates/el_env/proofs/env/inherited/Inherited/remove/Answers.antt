use Rattle.std.proofs.Common.{◌∙◌, ap, sym, subst, arith, slice_get, length}
use Rattle.el_env.specs.Places.{pairs_at, IsFindable}
use Rattle.el_env.specs.Inherited.{value_in}
use Rattle.el_env.proofs.Places.{has_place, length-pairs_at, IsSound-remove, value_in-remove}
use Rattle.el_env.proofs.Marks.{AreMarked-remove}
use Rattle.el_env.proofs.Rising.{rising-remove}
use Rattle.el_env.proofs.env.inherited.Inherited.remove.Goals as goal

pub remove-requires : goal.remove-requires
remove-requires c =
    let found = c.in-Some.ensures.found in
    omega (arith, has_place c.self.inside.bytes.items c.self.inside.places.items c.in-Some.at (c.args.name.now, found.value) (ap (λ ps. slice_get ps c.in-Some.at) c.self.view_is ∙ found.there), c.self.inside.places.ok.0)

pub invariant_of-self : goal.invariant_of-self
invariant_of-self c =
    let found = c.in-Some.ensures.found in
    let there = ap (λ ps. slice_get ps c.in-Some.at) c.self.view_is ∙ found.there in
    let counts = ap (value_in c.args.name.now) c.self.view_is ∙ found.counts in
    subst (λ ps. IsFindable c.self.inside.bytes.items ps c.self.inside.marks.flags.items) (sym c.remove.ensures.items) (record {
      sound = IsSound-remove _ _ _ c.self.invariant.sound;
      marked = AreMarked-remove _ _ _ _ c.args.name.now found.value there counts c.self.invariant.marked;
      rising = rising-remove c.self.inside.bytes.items c.self.inside.places.items c.in-Some.at c.self.invariant.rising;
    })

pub loop-at-smaller : goal.loop-at-smaller
loop-at-smaller c =
    omega (
      arith,
      length-pairs_at c.self.inside.bytes.items c.remove.new.self.items,
      length-pairs_at c.self.inside.bytes.items c.self.inside.places.items,
      ap length c.self.view_is,
      c.remove.ensures.len,
      c.remove.new.self.ok.0,
      c.self.inside.places.ok.0,
    )

pub loop-at-preserved : goal.loop-at-preserved
loop-at-preserved c = λ other apart.
    let found = c.in-Some.ensures.found in
    ap (λ ps. value_in other (pairs_at c.self.inside.bytes.items ps)) c.remove.ensures.items
    ∙ value_in-remove _ _ _ c.args.name.now found.value other (ap (λ ps. slice_get ps c.in-Some.at) c.self.view_is ∙ found.there) apart
    ∙ ap (value_in other) c.self.view_is ∙ c.loop-at.invariant other apart

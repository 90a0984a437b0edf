use Rattle.std.proofs.Common.{◌∙◌, sym, ap, arith, Some, slice_get}
use Rattle.el_env.proofs.Places.{has_place, has_pair, within_at_read}
use Rattle.el_env.proofs.env.inherited.Inherited.get.Goals as goal

pub index-place-requires : goal.index-place-requires
index-place-requires c =
    let found = c.in_ok-position.ensures.found in
    omega (arith, has_place c.self.inside.bytes.items c.self.inside.places.items c.in_ok-position.field-0 (c.args.name.now, found.value) (ap (λ ps. slice_get ps c.in_ok-position.field-0) c.self.view_is ∙ found.there), c.self.inside.places.ok.0)

pub variable-requires-clause-within : goal.variable-requires-clause-within
variable-requires-clause-within c =
    let found = c.in_ok-position.ensures.found in
    let below = has_place c.self.inside.bytes.items c.self.inside.places.items c.in_ok-position.field-0 (c.args.name.now, found.value) (ap (λ ps. slice_get ps c.in_ok-position.field-0) c.self.view_is ∙ found.there) in
    within_at_read c.self.inside.bytes.items _ c.self.inside.places.items c.in_ok-position.field-0 _ c.deref.ensures.value c.index-place.ensures below c.self.invariant.sound

pub returns-clause-value : goal.returns-clause-value
returns-clause-value c =
    let found = c.in_ok-position.ensures.found in
    let there = ap (λ ps. slice_get ps c.in_ok-position.field-0) c.self.view_is ∙ found.there in
    ap (λ v. Some v) (has_pair c.self.inside.bytes.items _ c.self.inside.places.items c.in_ok-position.field-0 _ c.variable.result c.args.name.now found.value c.deref.ensures.value c.index-place.ensures c.variable.ensures there) ∙ sym found.counts

use Rattle.std.proofs.Common.{◌<◌, ℕ, List, Option, Some, length, arith, sym, ◌∙◌, ap}
use Rattle.el_subst.proofs.Lookups.{words_of-none, words_of-some}
use Rattle.el_subst.proofs.lookup.indexed_words.Goals as goal

pub returns-in_err-place : goal.returns-in_err-place
returns-in_err-place c = rw c.from_residual.ensures (sym (words_of-none c.args.pairs.now c.args.key.now (sym (c.requires c.args.key.now) ∙ sym c.in_err-place.ensures.value)))

pub bounds-pairs-place : goal.bounds-pairs-place
bounds-pairs-place c = (words_of-some c.args.pairs.now c.args.key.now c.in_ok-place.field-0.now (sym (c.requires c.args.key.now) ∙ sym c.in_ok-place.ensures.value)).0

pub offset_bounds-pairs-place : goal.offset_bounds-pairs-place
offset_bounds-pairs-place c =
    let within : c.in_ok-place.field-0.now < length c.args.pairs.now =
    (words_of-some c.args.pairs.now c.args.key.now c.in_ok-place.field-0.now (sym (c.requires c.args.key.now) ∙ sym c.in_ok-place.ensures.value)).0 in
    omega arith

pub returns : goal.returns
returns c =
    let second : List ℕ × List (List ℕ) → Option (List (List ℕ)) = λ pair. Some pair.1 in
    let found = words_of-some c.args.pairs.now c.args.key.now c.in_ok-place.field-0.now (sym (c.requires c.args.key.now) ∙ sym c.in_ok-place.ensures.value) in
    sym (found.1 c.index-pairs-place.result c.index-pairs-place.is ∙ ap second c.index-pairs-place.is)

use Rattle.std.proofs.Common.{◌≡◌, arith, sym, ◌∙◌, ◌∷◌, ◌+◌, [], ap, length, subst, List, ℕ}
use Rattle.el_subst.specs.Values.{word_value}
use Rattle.el_subst.specs.Staying.{AreChanged}
use Rattle.el_subst.proofs.Staying.{when_not_some, Stay-start, Stay-to, Stay-more, Changed-stay, Changed-more}
use Rattle.el_subst.proofs.application.changed_places.Goals as goal
use Rattle.el_subst.proofs.application.changed_places.Goals.{then-is_some+in_ok-push, else-is_some}

pub overflow_add-start : goal.overflow_add-start
overflow_add-start c = omega (arith, c.in-Some.ensures.first.0.high, c.next_holding.ensures.few)

pub loop-place-preserved : goal.loop-place-preserved
loop-place-preserved c =
    let pairs = c.args.lookup.now in
    let words = c.args.words.now in
    let place = c.in-Some.place in
    let first = c.in-Some.ensures.first.0 in
    let so_far = c.loop-place.changed.items in
    -- the words before the next one that holds the byte stay
    let stay = Stay-to pairs c.telling_byte-byte.result c.telling_byte-byte.ensures words c.loop-place.start c.loop-place.start place (Stay-start pairs words c.loop-place.start c.loop-place.invariant.within) first.low (omega (arith, first.high)) first.before in
    let changed = Changed-stay pairs words c.args.from so_far c.loop-place.start place c.loop-place.invariant.changed stay in
    let stays : List ℕ → Type 0 = λ word. word_value pairs word ≡ word ∷ [] in
    let P : List ℕ → Type 0 = λ places. AreChanged pairs words c.args.from places (place + 1) in
    record {
      within = omega (arith, first.high);
      changed =
          elim c.if-is_some.branch [
            | then-is_some+in_ok-push w ↦
                subst P (sym (ap (λ v. v.items) w.changed-is ∙ w.in_ok-push.ensures.items)) (Changed-more pairs words c.args.from so_far place changed first.high)
            | else-is_some w ↦
                let here = subst stays c.at.ensures.same (when_not_some c.next_paired.result (sym c.is_some.ensures ∙ w.if-is_some.false) c.next_paired.ensures.none) in
                subst P (sym (ap (λ v. v.items) w.changed-is))
                (Changed-stay pairs words c.args.from so_far place (place + 1) changed (Stay-more pairs words place place (Stay-start pairs words place (omega (arith, first.high))) first.high here))
          ];
    }

pub returns : goal.returns
returns c =
    let pairs = c.args.lookup.now in
    let words = c.args.words.now in
    Changed-stay pairs words c.args.from c.loop-place.changed.items c.loop-place.start (length words) c.loop-place.invariant.changed
    (Stay-to pairs c.telling_byte-byte.result c.telling_byte-byte.ensures words c.loop-place.start c.loop-place.start (length words) (Stay-start pairs words c.loop-place.start c.loop-place.invariant.within) c.loop-place.invariant.within (omega arith) c.in_default.ensures.first)

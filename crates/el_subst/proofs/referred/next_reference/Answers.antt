use Rattle.std.proofs.Common.{◌+◌, ◌-◌, refl, sym, ap, ◌∙◌, arith, length, take, drop, length-take, length-drop, option_map}
use Rattle.el_subst.specs.Dollars.{found_of}
use Rattle.el_subst.proofs.Referring.{dollar-alone, dollar-begins, none-refers}
use Rattle.el_subst.proofs.referred.next_reference.Goals as goal

pub loop-dollar-init : goal.loop-dollar-init
loop-dollar-init c = record { within = omega arith; same = refl }

pub returns-in-Some-reference_after-clause-some : goal.returns-in-Some-reference_after-clause-some
returns-in-Some-reference_after-clause-some c =
    c.loop-dollar.invariant.same
    ∙ dollar-begins c.loop-dollar.rest.now c.in-Some.dollar c.slashes_before.result (found_of c.in-Some-reference_after.reference) c.in-Some.ensures
    (sym c.reference_after.ensures.found ∙ ap (option_map found_of) c.in-Some-reference_after.is) c.slashes_before.ensures

pub returns-in-Some-reference_after-clause-shorter : goal.returns-in-Some-reference_after-clause-shorter
returns-in-Some-reference_after-clause-shorter c =
    let dollar = c.in-Some.dollar in
    let rest = c.loop-dollar.rest.now in
    let count = c.in-Some-reference_after.reference.length in
    let after = take (length rest - (dollar + 1)) (drop (dollar + 1) rest) in
    omega (arith, c.loop-dollar.invariant.within, c.in-Some.ensures.0.high, length-drop count after, length-take (length rest - (dollar + 1)) (drop (dollar + 1) rest), length-drop (dollar + 1) rest)

pub loop-dollar-smaller : goal.loop-dollar-smaller
loop-dollar-smaller c =
    let dollar = c.in-Some.dollar in
    let rest = c.loop-dollar.rest.now in
    omega (arith, c.in-Some.ensures.0.high, length-take (length rest - (dollar + 1)) (drop (dollar + 1) rest), length-drop (dollar + 1) rest)

pub loop-dollar-preserved : goal.loop-dollar-preserved
loop-dollar-preserved c =
    let dollar = c.in-Some.dollar in
    let rest = c.loop-dollar.rest.now in
    record {
      within = omega (arith, c.loop-dollar.invariant.within, c.in-Some.ensures.0.high, length-take (length rest - (dollar + 1)) (drop (dollar + 1) rest), length-drop (dollar + 1) rest);
      same = c.loop-dollar.invariant.same ∙ dollar-alone rest dollar c.in-Some.ensures (sym c.reference_after.ensures.found ∙ ap (option_map found_of) c.in_default-reference_after.is);
    }

pub returns-clause-none : goal.returns-clause-none
returns-clause-none c = c.loop-dollar.invariant.same ∙ none-refers c.loop-dollar.rest.now c.in_default.ensures

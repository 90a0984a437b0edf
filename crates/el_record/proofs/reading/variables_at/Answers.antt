use Rattle.std.proofs.Common.{◌+◌, ◌-◌, Err, map as mapped, refl, sym, ap, ◌∙◌, arith}
use Rattle.std.proofs.lemmas.Result.{err_from_is_err_and}
use Rattle.el_env.specs.Variable.{pair_of}
use Rattle.el_env.proofs.Places.{mapped-push}
use Rattle.el_record.proofs.Read.{fails_so}
use Rattle.el_record.proofs.Variables.{none_gathered, left_so, no_name, no_value, bad_name, one_gathered, all_gathered, have_good_names}
use Rattle.el_record.proofs.reading.variables_at.Goals as goal

pub loop-init : goal.loop-init
loop-init c = none_gathered _ _ _ _ _ (ap (mapped pair_of) c.new-variables.ensures.items) refl (omega arith)

pub returns-in_err-name : goal.returns-in_err-name
returns-in_err-name c =
    let p = err_from_is_err_and c.from_residual.result c.from_residual.ensures.1 in
    let are = left_so c.loop.invariant (grind (arith, c.loop-test.true)) in
    fails_so _ _ c.in_err-name.field-0.0 _ _ _ (no_name {left = c.args.count - (c.loop.counter + 1)} are) c.in_err-name.ensures.read (p.1 ∙ ap Err p.2)

pub returns-in_err-value : goal.returns-in_err-value
returns-in_err-value c =
    let p = err_from_is_err_and c.from_residual-in_err-value.result c.from_residual-in_err-value.ensures.1 in
    let are = left_so c.loop.invariant (grind (arith, c.loop-test.true)) in
    fails_so _ _ c.in_err-value.field-0.0 _ _ _ (no_value {left = c.args.count - (c.loop.counter + 1)} _ _ are c.in_ok-name.ensures.read) c.in_err-value.ensures.read (p.1 ∙ ap Err p.2)

pub returns-then-not-is_next_name : goal.returns-then-not-is_next_name
returns-then-not-is_next_name c =
    let are = left_so c.loop.invariant (grind (arith, c.loop-test.true)) in
    bad_name {left = c.args.count - (c.loop.counter + 1)} _ _ _ _ are c.in_ok-name.ensures.read c.in_ok-value.ensures.read (sym c.if-not-is_next_name.ensures)

pub loop-preserved : goal.loop-preserved
loop-preserved c =
    let are = left_so c.loop.invariant (grind (arith, c.loop-test.true)) in
    one_gathered _ {left = c.args.count - (c.loop.counter + 1)} _ _ _ _ are c.in_ok-name.ensures.read c.in_ok-value.ensures.read (sym c.if-not-is_next_name.ensures) (ap (mapped pair_of) c.in_ok-push.ensures.items ∙ mapped-push _ _)

pub returns : goal.returns
returns c = all_gathered _ (left_so c.loop.invariant (grind (arith, c.loop-test.false))) c.in_ok-inherited.ensures

pub inherited-requires : goal.inherited-requires
inherited-requires c = have_good_names _ c.loop.invariant.good

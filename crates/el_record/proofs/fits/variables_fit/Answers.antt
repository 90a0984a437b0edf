use Rattle.std.proofs.Common.{arith, length, ◌<◌, ◌^◌}
use Rattle.el_record.proofs.Fitting.{variable_before, none_left, variables_fit}
use Rattle.el_record.proofs.fits.variables_fit.Goals as goal

pub loop-variable-preserved : goal.loop-variable-preserved
loop-variable-preserved c = λ texts. c.loop-variable.invariant (variable_before c.deref-variable-items.result.now c.loop-variable.variable-index c.variable-item.result c.loop-variable-test.true c.variable-item.is
    c.variable_fits.ensures.name c.variable_fits.ensures.value texts)

pub returns : goal.returns
returns c =
    let few : length c.deref-variable-items.result.now < 2 ^ 64 = omega arith in
    let texts = c.loop-variable.invariant (none_left c.deref-variable-items.result.now c.loop-variable.variable-index c.loop-variable-test.false) in
    variables_fit c.args.env.now c.in_ok-variables.variables.items c.deref-variable-items.result.now c.deref-variable-items.ensures.value c.in_ok-variables.ensures few texts c.names_are_good.ensures

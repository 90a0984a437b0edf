use Rattle.std.proofs.Common.{◌-◌, length, ◌∙◌, arith}
use Rattle.el_proc.proofs.InputWords.{newline_cut, newline_kept}
use Rattle.el_proc.proofs.input.without_newline.Goals as goal

pub returns-in-Some-clause-same : goal.returns-in-Some-clause-same
returns-in-Some-clause-same c =
    let cases = c.in-Some.ensures.cases in
    cases.1 ∙ newline_cut c.args.bytes.now (length c.args.bytes.now - 1) (omega (arith, cases.2)) cases.0

pub returns-in-None-clause-same : goal.returns-in-None-clause-same
returns-in-None-clause-same c = newline_kept c.args.bytes.now c.in-None.ensures.cases

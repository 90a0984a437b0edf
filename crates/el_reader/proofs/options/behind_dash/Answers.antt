use Rattle.std.proofs.Common.{true, false, Some, sym, ap, ◌∙◌}
use Rattle.std.specs.Str.{bytes_eq}
use Rattle.el_reader.proofs.LettersSeen.{dash-judged}
use Rattle.el_reader.proofs.options.behind_dash.Goals as goal

pub returns-then-not-is_literal : goal.returns-then-not-is_literal
returns-then-not-is_literal c = λ opts is.
    dash-judged c.args.program opts c.args.text.now c.args.letters.now false (sym c.is_empty.ensures ∙ c.if-is_empty.false) (ap (bytes_eq c.args.letters.now) (sym c.as_slice.ensures) ∙ sym c.eq.ensures ∙ c.if-eq.false)
    (sym c.is_literal.ensures ∙ c.if-not-is_literal.true)

pub returns : goal.returns
returns c = λ opts is.
    ap Some (c.judge_letters.ensures opts is)
    ∙ dash-judged c.args.program opts c.args.text.now c.args.letters.now true (sym c.is_empty.ensures ∙ c.if-is_empty.false) (ap (bytes_eq c.args.letters.now) (sym c.as_slice.ensures) ∙ sym c.eq.ensures ∙ c.if-eq.false)
    (sym c.is_literal.ensures ∙ c.if-not-is_literal.false)

use Rattle.std.proofs.Common.{sym, ◌∙◌}
use Rattle.el_words.proofs.Numbers.{number_of-not_digits, IsUtf8-digits, result_ok-parse, MatchResult-ok, MatchResult-not_ok}
use Rattle.el_words.proofs.number.parse_u64.Goals as goal

pub returns-then-not-are_digits : goal.returns-then-not-are_digits
returns-then-not-are_digits c = number_of-not_digits c.args.bytes.now (sym c.are_digits.ensures ∙ c.if-not-are_digits.true)

pub returns-in_err-ok : goal.returns-in_err-ok
returns-in_err-ok c =
    let utf8 = IsUtf8-digits c.args.bytes.now (sym c.are_digits.ensures ∙ c.if-not-are_digits.false) in
    absurd ((MatchResult-not_ok _ _ _ c.in_err-ok.ensures.value c.from_utf8.ensures.cases).1.0 utf8)

pub returns : goal.returns
returns c =
    let same = (MatchResult-ok _ _ _ _ c.in_ok-ok.ensures.value c.from_utf8.ensures.cases).0 in
    let digits = sym c.are_digits.ensures ∙ c.if-not-are_digits.false in
    c.ok-2.ensures.value ∙ result_ok-parse c.args.bytes.now _ digits (rw same at c.parse.ensures.value.0)

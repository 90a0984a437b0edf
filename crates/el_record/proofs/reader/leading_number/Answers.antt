use Rattle.std.proofs.Common.{sym, ◌∙◌}
use Rattle.el_record.proofs.Leading.{other_first}
use Rattle.el_record.proofs.reader.leading_number.Goals as goal

pub returns-then-not-is_ascii_digit : goal.returns-then-not-is_ascii_digit
returns-then-not-is_ascii_digit c = other_first _ _ _ c.in-Some.ensures.cases.0 (sym c.is_ascii_digit.ensures.value ∙ c.if-not-is_ascii_digit.true)

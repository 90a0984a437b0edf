use Rattle.std.proofs.Common.{◌∙◌, arith, Some, sym, ap, not, nat_eq}
use Rattle.std.specs.Option.{option_eq}
use Rattle.el_lex.specs.Bytes.{is_hexadecimal_digit}
use Rattle.el_lex.proofs.Scans.{line_behind}
use Rattle.el_lex.proofs.Escapes.{begins, begins-other, begins-same, octal-answer, hexadecimal-answer}
use Rattle.el_lex.proofs.cursor.Cursor.zero_escape.Goals as goal

pub returns-then-ne-clause-ok : goal.returns-then-ne-clause-ok
returns-then-ne-clause-ok c =
    let mid = c.next.new.self.rest.now in
    let other = ap (λ next. not (option_eq nat_eq next (Some 120))) (sym c.peek.ensures) ∙ sym c.if-ne.ensures in
    octal-answer c.number.result c.args.self.now.rest.now mid c.number.new.self.rest.now c.args.self.now.line c.number.new.self.line
    c.next.ensures.rest (begins-other mid 120 other) c.number.ensures.value c.number.ensures.ok c.number.ensures.rest (c.number.ensures.line ∙ line_behind c.args.self.now.rest.now 48 c.args.self.now.line c.next.new.self.line c.requires c.next.ensures.line (omega arith))

pub returns-in-Some-clause-ok : goal.returns-in-Some-clause-ok
returns-in-Some-clause-ok c =
    let mid = c.next.new.self.rest.now in
    let last = c.next-2.new.self.rest.now in
    let x = begins-same mid 120 (ap (λ next. not (option_eq nat_eq next (Some 120))) (sym c.peek.ensures) ∙ sym c.if-ne.ensures) in
    let digit = begins is_hexadecimal_digit last c.in-Some.byte (sym c.peek-2.ensures ∙ c.in-Some.is) ∙ sym c.if-has_digit.ensures in
    hexadecimal-answer c.number-in-Some.result c.args.self.now.rest.now mid last c.number-in-Some.new.self.rest.now c.args.self.now.line c.number-in-Some.new.self.line
    c.next.ensures.rest c.next-2.ensures.rest x digit c.number-in-Some.ensures.value c.number-in-Some.ensures.ok c.number-in-Some.ensures.rest
    (c.number-in-Some.ensures.line ∙ line_behind mid 120 c.next.new.self.line c.next-2.new.self.line x c.next-2.ensures.line (omega arith)
    ∙ line_behind c.args.self.now.rest.now 48 c.args.self.now.line c.next.new.self.line c.requires c.next.ensures.line (omega arith))

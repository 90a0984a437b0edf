use Rattle.std.proofs.Common.{◌≡◌, ◌∙◌, arith, Some, None, Err, ap, sym}
use Rattle.el_lex.specs.declared.fault.LexFault.{LexFault}
use Rattle.std.specs.Prelude.{slice_get}
use Rattle.std.proofs.lemmas.Result.{err_from_is_err_and}
use Rattle.el_lex.specs.Pieces.{named}
use Rattle.el_lex.specs.Escapes.{meant_bytes}
use Rattle.el_lex.proofs.Escapes.{escape-end, escape-nul, escape-zero, escape-decimal, escape-named, read_along, decimal-read, named-read}
use Rattle.el_lex.proofs.cursor.Cursor.escape.Goals as goal

pub returns-in-None-clause-err : goal.returns-in-None-clause-err
returns-in-None-clause-err c =
    let end : slice_get c.args.self.now.rest.now 0 ≡ None = cc in
    escape-end c.args.self.now.rest.now end ∙ ap (λ (f : LexFault). Err f.kind) (sym c.fault.ensures)

pub returns-in-Some-eq0-clause-err : goal.returns-in-Some-eq0-clause-err
returns-in-Some-eq0-clause-err c =
    let next : slice_get c.args.self.now.rest.now 0 ≡ Some 0 = cc in
    escape-nul c.args.self.now.rest.now next ∙ ap (λ (f : LexFault). Err f.kind) (sym c.fault-in-Some-eq0.ensures)

pub returns-in_err-zero_escape-in-Some-eq48-clause-err : goal.returns-in_err-zero_escape-in-Some-eq48-clause-err
returns-in_err-zero_escape-in-Some-eq48-clause-err c =
    let next : slice_get c.args.self.now.rest.now 0 ≡ Some 48 = cc in
    let p = err_from_is_err_and c.from_residual.result c.from_residual.ensures.1 in
    rw (p.1, p.2) (escape-zero c.args.self.now.rest.now next ∙ c.in_err-zero_escape-in-Some-eq48.ensures.err)

pub returns-in_err-number-in-Some-49-to-57-clause-err : goal.returns-in_err-number-in-Some-49-to-57-clause-err
returns-in_err-number-in-Some-49-to-57-clause-err c =
    let byte = c.in-Some-49-to-57.field-0 in
    let next : slice_get c.args.self.now.rest.now 0 ≡ Some byte = cc in
    let p = err_from_is_err_and c.from_residual-in_err-number-in-Some-49-to-57.result c.from_residual-in_err-number-in-Some-49-to-57.ensures.1 in
    rw (p.1, p.2) (escape-decimal c.args.self.now.rest.now byte next (omega arith) (omega arith) ∙ c.in_err-number-in-Some-49-to-57.ensures.err)

pub returns-in_ok-zero_escape-in-Some-eq48-clause-ok : goal.returns-in_ok-zero_escape-in-Some-eq48-clause-ok
returns-in_ok-zero_escape-in-Some-eq48-clause-ok c =
    let next : slice_get c.args.self.now.rest.now 0 ≡ Some 48 = cc in
    read_along _ _ _ _ _ _ _ (escape-zero c.args.self.now.rest.now next) c.in_ok-zero_escape-in-Some-eq48.ensures.ok

pub returns-in_ok-number-in-Some-49-to-57-clause-ok : goal.returns-in_ok-number-in-Some-49-to-57-clause-ok
returns-in_ok-number-in-Some-49-to-57-clause-ok c =
    let byte = c.in-Some-49-to-57.field-0 in
    let next : slice_get c.args.self.now.rest.now 0 ≡ Some byte = cc in
    read_along _ _ _ _ _ _ _ (escape-decimal c.args.self.now.rest.now byte next (omega arith) (omega arith))
    (decimal-read c.args.self.now.rest.now c.number.new.self.rest.now c.in_ok-number-in-Some-49-to-57.field-0 c.args.self.now.line c.number.new.self.line
    c.in_ok-number-in-Some-49-to-57.ensures.value c.in_ok-number-in-Some-49-to-57.ensures.ok c.number.ensures.rest c.number.ensures.line)

pub returns-in-Some-clause-ok : goal.returns-in-Some-clause-ok
returns-in-Some-clause-ok c =
    let next : slice_get c.args.self.now.rest.now 0 ≡ Some c.in-Some.byte = cc in
    read_along _ _ _ _ _ _ _ (escape-named c.args.self.now.rest.now c.in-Some.byte next (omega arith) (grind arith))
    (named-read c.args.self.now.rest.now c.next.new.self.rest.now (meant_bytes c.named.result) c.in-Some.byte c.args.self.now.line c.next.new.self.line next c.next.ensures.rest c.next.ensures.line (ap named (sym c.in-Some.byte-is) ∙ c.named.ensures.value))

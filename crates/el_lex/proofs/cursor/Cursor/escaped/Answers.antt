use Rattle.std.proofs.Common.{◌≡◌, ◌∙◌, arith, Some}
use Rattle.std.specs.Prelude.{slice_get}
use Rattle.el_lex.proofs.Scans.{piece-escaped, same_word}
use Rattle.el_lex.proofs.cursor.Cursor.escaped.Goals as goal

pub returns-in_ok-push-in-Some-clause-ok : goal.returns-in_ok-push-in-Some-clause-ok
returns-in_ok-push-in-Some-clause-ok c =
    let next : slice_get c.args.self.now.rest.now 0 ≡ Some c.in-Some.byte = cc in
    piece-escaped c.args.self.now.rest.now c.next.new.self.rest.now c.in-Some.byte c.args.self.now.line c.next.new.self.line c.args.draft.now.line c.args.draft.now.bytes
    next c.next.ensures.rest c.next.ensures.line (omega arith)
    ∙ same_word _ _ _ _ _ _ c.push.ensures.line c.in_ok-push-in-Some.ensures.bytes

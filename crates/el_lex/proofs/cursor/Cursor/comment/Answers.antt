use Rattle.std.proofs.Common.{◌≡◌, ◌∙◌, arith, Some, None}
use Rattle.std.specs.Prelude.{slice_get}
use Rattle.el_lex.proofs.Scans.{scan-comment_nul, scan-comment_end, fault_here}
use Rattle.el_lex.proofs.OrdinaryRuns.{comment-ordinary, comment-over}
use Rattle.el_lex.proofs.cursor.Cursor.comment.Goals as goal

pub returns-in-Some-eq0-clause-err : goal.returns-in-Some-eq0-clause-err
returns-in-Some-eq0-clause-err c =
    let next : slice_get c.ordinary.new.self.rest.now 0 ≡ Some 0 = cc in
    fault_here _ _ _ _ c.fault.ensures (comment-ordinary c.args.self.now.rest.now c.ordinary.new.self.rest.now c.args.self.now.line c.ordinary.new.self.line
    c.ordinary.ensures.rest c.ordinary.ensures.line ∙ scan-comment_nul c.ordinary.new.self.rest.now c.ordinary.new.self.line next)

pub returns-in_default-clause-ok : goal.returns-in_default-clause-ok
returns-in_default-clause-ok c =
    let next : slice_get c.ordinary.new.self.rest.now 0 ≡ Some c.in_default.field-0 = cc in
    comment-over c.args.self.now.rest.now c.ordinary.new.self.rest.now c.in_default.field-0 c.args.self.now.line c.ordinary.new.self.line
    c.ordinary.ensures.rest c.ordinary.ensures.line next (grind (arith, c.in_default.field-0-is))

pub returns-in_default-2-clause-ok : goal.returns-in_default-2-clause-ok
returns-in_default-2-clause-ok c =
    let end : slice_get c.ordinary.new.self.rest.now 0 ≡ None = cc in
    comment-ordinary c.args.self.now.rest.now c.ordinary.new.self.rest.now c.args.self.now.line c.ordinary.new.self.line c.ordinary.ensures.rest c.ordinary.ensures.line
    ∙ scan-comment_end c.ordinary.new.self.rest.now c.ordinary.new.self.line end

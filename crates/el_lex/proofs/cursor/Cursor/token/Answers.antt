use Rattle.std.proofs.Common.{◌∙◌, sym}
use Rattle.el_lex.proofs.Scans.{scan-brace, scan-word, no_hash, faults_along, token_along}
use Rattle.el_lex.proofs.cursor.Cursor.token.Goals as goal

pub returns-in-Some-clause-ok : goal.returns-in-Some-clause-ok
returns-in-Some-clause-ok c =
    scan-brace c.args.self.now.rest.now c.next.new.self.rest.now c.args.byte c.args.self.now.line c.next.new.self.line _
    c.requires.next c.next.ensures.rest c.next.ensures.line c.requires.no_gap (no_hash c.args.byte c.requires.no_comment) (sym c.lone_brace.ensures ∙ c.in-Some.is)

pub returns-in-None-clause-ok : goal.returns-in-None-clause-ok
returns-in-None-clause-ok c =
    token_along c.word.result _ _ _ (scan-word c.args.self.now.rest.now c.args.byte c.args.self.now.line
    c.requires.next c.requires.no_gap (no_hash c.args.byte c.requires.no_comment) (sym c.lone_brace.ensures ∙ c.in-None.is)) c.word.ensures.ok

pub returns-in-None-clause-err : goal.returns-in-None-clause-err
returns-in-None-clause-err c =
    faults_along c.word.result _ _ (scan-word c.args.self.now.rest.now c.args.byte c.args.self.now.line
    c.requires.next c.requires.no_gap (no_hash c.args.byte c.requires.no_comment) (sym c.lone_brace.ensures ∙ c.in-None.is)) c.word.ensures.err

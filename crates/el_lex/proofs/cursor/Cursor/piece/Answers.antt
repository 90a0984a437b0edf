use Rattle.std.proofs.Common.{◌≡◌, arith, Some}
use Rattle.std.specs.Prelude.{slice_get}
use Rattle.el_lex.specs.declared.ordinary.Inside.TheVariants.{Word}
use Rattle.el_lex.proofs.Scans.{scan-word_nul, scan-quote, scan-escaped, fault_here, faults_along, ok_along}
use Rattle.el_lex.proofs.OrdinaryRuns.{word-ordinary, plain, behind-shorter}
use Rattle.el_lex.proofs.cursor.Cursor.piece.Goals as goal

pub returns-in-0-clause-err : goal.returns-in-0-clause-err
returns-in-0-clause-err c =
    let next : slice_get c.args.self.now.rest.now 0 ≡ Some 0 = cc in
    fault_here _ _ _ _ c.fault.ensures (scan-word_nul c.args.self.now.rest.now c.args.self.now.line c.args.draft.now.line c.args.draft.now.bytes next)

pub returns-in-34-clause-ok : goal.returns-in-34-clause-ok
returns-in-34-clause-ok c =
    let next : slice_get c.args.self.now.rest.now 0 ≡ Some 34 = cc in
    ok_along c.quoted.result _ _ _ (scan-quote c.args.self.now.rest.now c.next.new.self.rest.now c.args.self.now.line c.next.new.self.line
    c.args.draft.now.line c.args.draft.now.bytes next c.next.ensures.rest c.next.ensures.line) c.quoted.ensures.ok

pub returns-in-34-clause-err : goal.returns-in-34-clause-err
returns-in-34-clause-err c =
    let next : slice_get c.args.self.now.rest.now 0 ≡ Some 34 = cc in
    faults_along c.quoted.result _ _ (scan-quote c.args.self.now.rest.now c.next.new.self.rest.now c.args.self.now.line c.next.new.self.line
    c.args.draft.now.line c.args.draft.now.bytes next c.next.ensures.rest c.next.ensures.line) c.quoted.ensures.err

pub returns-in-92-clause-ok : goal.returns-in-92-clause-ok
returns-in-92-clause-ok c =
    let next : slice_get c.args.self.now.rest.now 0 ≡ Some 92 = cc in
    ok_along c.escaped.result _ _ _ (scan-escaped c.args.self.now.rest.now c.next-in-92.new.self.rest.now c.args.self.now.line c.next-in-92.new.self.line
    c.args.draft.now.line c.args.draft.now.bytes next c.next-in-92.ensures.rest c.next-in-92.ensures.line) c.escaped.ensures.ok

pub returns-in-92-clause-err : goal.returns-in-92-clause-err
returns-in-92-clause-err c =
    let next : slice_get c.args.self.now.rest.now 0 ≡ Some 92 = cc in
    faults_along c.escaped.result _ _ (scan-escaped c.args.self.now.rest.now c.next-in-92.new.self.rest.now c.args.self.now.line c.next-in-92.new.self.line
    c.args.draft.now.line c.args.draft.now.bytes next c.next-in-92.ensures.rest c.next-in-92.ensures.line) c.escaped.ensures.err

pub returns-in_ok-append-in_default-clause-ok : goal.returns-in_ok-append-in_default-clause-ok
returns-in_ok-append-in_default-clause-ok c =
    word-ordinary c.args.self.now.rest.now c.ordinary.new.self.rest.now c.ordinary.result.now c.args.draft.now.bytes c.append.new.self.bytes
    c.args.self.now.line c.ordinary.new.self.line c.args.draft.now.line c.append.new.self.line
    c.ordinary.ensures.run c.ordinary.ensures.rest c.ordinary.ensures.line c.append.ensures.line c.in_ok-append-in_default.ensures.bytes

pub returns-in_ok-append-in_default-clause-shorter : goal.returns-in_ok-append-in_default-clause-shorter
returns-in_ok-append-in_default-clause-shorter c =
    behind-shorter Word c.args.self.now.rest.now c.ordinary.new.self.rest.now c.args.byte c.ordinary.ensures.rest c.requires.next
    (plain c.args.byte c.requires.no_gap (omega arith) (omega arith) (omega arith))

use Rattle.std.proofs.Common.{◌≡◌, ◌∙◌, arith, Some, None}
use Rattle.std.specs.Prelude.{slice_get}
use Rattle.std.proofs.lemmas.Result.{err_from_is_err_and}
use Rattle.std.proofs.lemmas.Grind.{common_steps}
use Rattle.el_lex.proofs.Scans.{scan-unquote, scan-quotes_nul, scan-bare, scan-backslash, scan-quotes_end, same_quotes, fault_here, fault_along}
use Rattle.el_lex.proofs.OrdinaryRuns.{quotes-ordinary}
use Rattle.el_lex.proofs.cursor.Cursor.quoted.Goals as goal

pub returns-in-None-clause-err : goal.returns-in-None-clause-err
returns-in-None-clause-err c =
    let end : slice_get c.ordinary.new.self.rest.now 0 ≡ None = cc in
    let along = c.loop-self.invariant.same ∙ quotes-ordinary c.loop-self.self.rest.now c.ordinary.new.self.rest.now c.ordinary.result.now c.loop-self.draft.bytes c.append.new.self.bytes
    c.loop-self.self.line c.ordinary.new.self.line c.loop-self.draft.line c.append.new.self.line c.args.self.now.line
    c.ordinary.ensures.run c.ordinary.ensures.rest c.ordinary.ensures.line c.append.ensures.line c.in_ok-append.ensures.bytes in
    fault_here _ _ _ _ c.fault-opening.ensures (along ∙ scan-quotes_end c.ordinary.new.self.rest.now c.ordinary.new.self.line c.append.new.self.line c.args.self.now.line c.append.new.self.bytes end)

pub returns-in-Some-eq34-clause-ok : goal.returns-in-Some-eq34-clause-ok
returns-in-Some-eq34-clause-ok c =
    let next : slice_get c.ordinary.new.self.rest.now 0 ≡ Some 34 = cc in
    let along = c.loop-self.invariant.same ∙ quotes-ordinary c.loop-self.self.rest.now c.ordinary.new.self.rest.now c.ordinary.result.now c.loop-self.draft.bytes c.append.new.self.bytes
    c.loop-self.self.line c.ordinary.new.self.line c.loop-self.draft.line c.append.new.self.line c.args.self.now.line
    c.ordinary.ensures.run c.ordinary.ensures.rest c.ordinary.ensures.line c.append.ensures.line c.in_ok-append.ensures.bytes in
    along ∙ scan-unquote c.ordinary.new.self.rest.now c.next.new.self.rest.now c.ordinary.new.self.line c.next.new.self.line
    c.append.new.self.line c.args.self.now.line c.append.new.self.bytes next c.next.ensures.rest c.next.ensures.line

pub returns-in-Some-eq0-clause-err : goal.returns-in-Some-eq0-clause-err
returns-in-Some-eq0-clause-err c =
    let next : slice_get c.ordinary.new.self.rest.now 0 ≡ Some 0 = cc in
    let along = c.loop-self.invariant.same ∙ quotes-ordinary c.loop-self.self.rest.now c.ordinary.new.self.rest.now c.ordinary.result.now c.loop-self.draft.bytes c.append.new.self.bytes
    c.loop-self.self.line c.ordinary.new.self.line c.loop-self.draft.line c.append.new.self.line c.args.self.now.line
    c.ordinary.ensures.run c.ordinary.ensures.rest c.ordinary.ensures.line c.append.ensures.line c.in_ok-append.ensures.bytes in
    fault_here _ _ _ _ c.fault.ensures (along ∙ scan-quotes_nul c.ordinary.new.self.rest.now c.ordinary.new.self.line c.next.new.self.line
    c.append.new.self.line c.args.self.now.line c.append.new.self.bytes next c.next.ensures.line)

pub loop-self-preserved-in-Continue-branch-2 : goal.loop-self-preserved-in-Continue-branch-2
loop-self-preserved-in-Continue-branch-2 c =
    let next : slice_get c.ordinary.new.self.rest.now 0 ≡ Some 92 = cc in
    let along = c.loop-self.invariant.same ∙ quotes-ordinary c.loop-self.self.rest.now c.ordinary.new.self.rest.now c.ordinary.result.now c.loop-self.draft.bytes c.append.new.self.bytes
    c.loop-self.self.line c.ordinary.new.self.line c.loop-self.draft.line c.append.new.self.line c.args.self.now.line
    c.ordinary.ensures.run c.ordinary.ensures.rest c.ordinary.ensures.line c.append.ensures.line c.in_ok-append.ensures.bytes in
    record {
      same = along ∙ scan-backslash c.ordinary.new.self.rest.now c.next.new.self.rest.now c.ordinary.new.self.line c.next.new.self.line
          c.append.new.self.line c.args.self.now.line c.append.new.self.bytes next c.next.ensures.rest c.next.ensures.line
          ∙ c.in_ok-escape_into-in-Some-eq92.ensures.ok c.args.self.now.line;
      shorter = grind (arith, common_steps);
    }

pub returns-in_err-escape_into-in-Some-eq92-clause-err : goal.returns-in_err-escape_into-in-Some-eq92-clause-err
returns-in_err-escape_into-in-Some-eq92-clause-err c =
    let next : slice_get c.ordinary.new.self.rest.now 0 ≡ Some 92 = cc in
    let along = c.loop-self.invariant.same ∙ quotes-ordinary c.loop-self.self.rest.now c.ordinary.new.self.rest.now c.ordinary.result.now c.loop-self.draft.bytes c.append.new.self.bytes
    c.loop-self.self.line c.ordinary.new.self.line c.loop-self.draft.line c.append.new.self.line c.args.self.now.line
    c.ordinary.ensures.run c.ordinary.ensures.rest c.ordinary.ensures.line c.append.ensures.line c.in_ok-append.ensures.bytes in
    let p = err_from_is_err_and c.from_residual-in_err-escape_into-in-Some-eq92.result c.from_residual-in_err-escape_into-in-Some-eq92.ensures.1 in
    rw (p.1, p.2) (fault_along _ _ _ (along ∙ scan-backslash c.ordinary.new.self.rest.now c.next.new.self.rest.now c.ordinary.new.self.line c.next.new.self.line
    c.append.new.self.line c.args.self.now.line c.append.new.self.bytes next c.next.ensures.rest c.next.ensures.line)
    (c.in_err-escape_into-in-Some-eq92.ensures.err c.args.self.now.line))

pub loop-self-preserved : goal.loop-self-preserved
loop-self-preserved c =
    let next : slice_get c.ordinary.new.self.rest.now 0 ≡ Some c.in-Some.newline = cc in
    let along = c.loop-self.invariant.same ∙ quotes-ordinary c.loop-self.self.rest.now c.ordinary.new.self.rest.now c.ordinary.result.now c.loop-self.draft.bytes c.append.new.self.bytes
    c.loop-self.self.line c.ordinary.new.self.line c.loop-self.draft.line c.append.new.self.line c.args.self.now.line
    c.ordinary.ensures.run c.ordinary.ensures.rest c.ordinary.ensures.line c.append.ensures.line c.in_ok-append.ensures.bytes in
    record {
      same = along ∙ scan-bare c.ordinary.new.self.rest.now c.next.new.self.rest.now c.in-Some.newline c.ordinary.new.self.line c.next.new.self.line
          c.append.new.self.line c.args.self.now.line c.append.new.self.bytes next c.next.ensures.rest c.next.ensures.line (omega arith) (omega arith) (omega arith)
          ∙ same_quotes _ _ _ _ _ _ _ c.push.ensures.line c.in_ok-push-in-Some.ensures.bytes;
      shorter = grind (arith, common_steps);
    }

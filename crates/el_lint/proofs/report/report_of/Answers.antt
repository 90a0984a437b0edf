use Rattle.std.proofs.Common.{sym, subst}
use Rattle.el_lint.specs.Findings.{AreFindings}
use Rattle.el_lint.proofs.Reporting.{findings-reported, fault-reported}
use Rattle.el_lint.proofs.report.report_of.Goals as goal

pub returns-in-Ok : goal.returns-in-Ok
returns-in-Ok c =
    let are = subst (AreFindings c.args.params c.args.script.now) (sym c.deref.ensures.value) c.in-Ok.ensures.ok in
    findings-reported c.args.params c.args.file.now c.args.script.now c.deref.result.now c.findings_told.result are c.findings_told.ensures.text c.findings_told.ensures.status

pub returns-in-Err : goal.returns-in-Err
returns-in-Err c =
    let fault = c.in-Err.fault in
    fault-reported c.args.params c.args.file.now c.args.script.now fault.kind fault.line c.fault_told.result c.in-Err.ensures.fault c.fault_told.ensures.text c.fault_told.ensures.status c.fault_told.ensures.known

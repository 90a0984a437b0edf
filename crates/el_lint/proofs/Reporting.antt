-- The report of a script.
use Rattle.std.proofs.Common.{◌≡◌, ℕ, List, refl}
use Rattle.std.specs.Prelude.{Result, Ok, Err, IfOk}
use Rattle.el_check.specs.declared.params.Params.{Params}
use Rattle.el_check.specs.declared.kind.CheckKind.{CheckKind}
use Rattle.el_check.specs.declared.kind.CheckKind.TheVariants.{NoMemory}
use Rattle.el_check.specs.Checks.{IsFaultOrMemory}
use Rattle.el_check.specs.Faults.{IsScriptFault}
use Rattle.el_lint.specs.declared.report.Report.{Report}
use Rattle.el_lint.specs.declared.finding.Finding.{Finding}
use Rattle.el_lint.specs.Findings.{AreFindings}
use Rattle.el_lint.specs.Reports.{finding_lines, fault_line, status_of, IsReport, linted, refused}

-- a fault that isn't want of memory is the first one
pub fault-found : (params : Params) (script : List ℕ) (kind : CheckKind) (line : ℕ) → (kind ≡ NoMemory → ⊥) → IsFaultOrMemory params script kind line → IsScriptFault params script kind line
fault-found params script NoMemory line other found = absurd (other refl)
fault-found params script kind line other found = found

module _ {E : Type 0} (params : Params) (file script : List ℕ) where
  -- what is found is reported
  pub findings-reported : (findings : List Finding) (result : Result Report E) → AreFindings params script findings → IfOk result (λ report. report.text ≡ finding_lines file findings)
      → IfOk result (λ report. report.status ≡ status_of findings) → IfOk result (IsReport params file script)
  findings-reported findings (Ok report) are text status = linted findings are text status
  findings-reported findings (Err error) are text status = tt

  -- and so is a fault
  pub fault-reported : (kind : CheckKind) (line : ℕ) (result : Result Report E) → IsFaultOrMemory params script kind line → IfOk result (λ report. report.text ≡ fault_line file kind line)
      → IfOk result (λ report. report.status ≡ 100) → IfOk result (λ report. kind ≡ NoMemory → ⊥) → IfOk result (IsReport params file script)
  fault-reported kind line (Ok report) found text status other = refused kind line (fault-found params script kind line other found) text status
  fault-reported kind line (Err error) found text status other = tt

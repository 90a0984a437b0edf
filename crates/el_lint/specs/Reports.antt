-- What ellint writes of a script.
use Rattle.std.specs.Prelude.{◌≡◌, ℕ, List, [], ◌∷◌, ◌++◌, codes}
use Rattle.std.specs.Fmt.{decimal}
use Rattle.el_check.specs.declared.params.Params.{Params}
use Rattle.el_check.specs.declared.kind.CheckKind.{CheckKind}
use Rattle.el_check.specs.Kinds.{kind_name}
use Rattle.el_check.specs.Faults.{IsScriptFault}
use Rattle.el_lint.specs.declared.finding.Finding.{Finding}
use Rattle.el_lint.specs.declared.report.Report.{Report}
use Rattle.el_lint.specs.Findings.{AreFindings}
use Rattle.el_lint.specs.declared.line_fault.LineFault.{LineFault}
use Rattle.el_lint.specs.LineFaults.{line_fault_kind, line_fault_sentence}
use Rattle.el_lint.specs.Sentences.{lint_name, sentence}

-- what each line begins with: the file and the number of the line
unfoldable pub place_text : (file : List ℕ) → (line : ℕ) → List ℕ
place_text file line = file ++ codes ":" ++ decimal line ++ codes ": "

-- the line of a finding
unfoldable pub finding_line : (file : List ℕ) → Finding → List ℕ
finding_line file finding = place_text file finding.line ++ codes "warning: " ++ sentence finding.lint ++ codes " [" ++ lint_name finding.lint ++ codes "]\n"

-- a line for each finding
abbrev pub finding_lines : (file : List ℕ) → List Finding → List ℕ
finding_lines file [] = []
finding_lines file (finding ∷ findings) = finding_line file finding ++ finding_lines file findings

-- the line of a script that isn't accepted
unfoldable pub fault_line : (file : List ℕ) → CheckKind → (line : ℕ) → List ℕ
fault_line file kind line = place_text file line ++ kind_name kind ++ codes "\n"

-- the line of a script that can't be called as its first line says
unfoldable pub refusal_line : (file : List ℕ) → LineFault → List ℕ
refusal_line file fault = place_text file 1 ++ line_fault_kind fault ++ codes ": " ++ line_fault_sentence fault ++ codes "\n"

-- the status of findings
abbrev pub status_of : List Finding → ℕ
status_of [] = 0
status_of (finding ∷ findings) = 1

-- What is written of a script, and its status: a line for each finding, with 1 where there is one; or the first fault, with 100.
pub data IsReport (params : Params) (file script : List ℕ) (report : Report) : Type 0 where
  linted : (findings : List Finding) → AreFindings params script findings → report.text ≡ finding_lines file findings → report.status ≡ status_of findings → IsReport params file script report
  refused : (kind : CheckKind) (line : ℕ) → IsScriptFault params script kind line → report.text ≡ fault_line file kind line → report.status ≡ 100 → IsReport params file script report

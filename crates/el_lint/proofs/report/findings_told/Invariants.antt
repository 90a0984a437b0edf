use Rattle.std.proofs.Common.{◌≡◌, ◌++◌, drop}
use Rattle.el_lint.specs.Reports.{finding_lines}
use Rattle.el_lint.proofs.report.findings_told.Given as goal

-- the lines so far, and those of the findings that are left
abbrev pub invariant-loop-finding : goal.invariant-loop-finding
invariant-loop-finding l = l.text ++ finding_lines l.file (drop l.finding-index l.findings) ≡ finding_lines l.file l.findings

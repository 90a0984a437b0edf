use Rattle.std.proofs.Common.{subst}
use Rattle.el_check.specs.Checks.{checked_in}
use Rattle.el_check.specs.Surveys.{IsVerdict}
use Rattle.el_check.proofs.Computed.{verdict-ok, verdict-fault}
use Rattle.el_check.proofs.checking.first_fault.Goals as goal

pub returns-clause-ok : goal.returns-clause-ok
returns-clause-ok c = verdict-ok c.args.params c.args.script.now c.inspect_script.result (subst (λ scope. IsVerdict (checked_in scope c.args.script.now) c.inspect_script.result) c.places_of.ensures c.inspect_script.ensures)

pub returns-clause-fault : goal.returns-clause-fault
returns-clause-fault c = verdict-fault c.args.params c.args.script.now c.inspect_script.result (subst (λ scope. IsVerdict (checked_in scope c.args.script.now) c.inspect_script.result) c.places_of.ensures c.inspect_script.ensures)

use Rattle.std.proofs.Common.{subst}
use Rattle.el_check.specs.Checks.{IsAnswer, checked_in}
use Rattle.el_check.proofs.Computed.{answer-ok, answer-fault}
use Rattle.el_check.proofs.checking.check.Goals as goal

pub returns-clause-ok : goal.returns-clause-ok
returns-clause-ok c = answer-ok c.args.params c.args.script.now c.read_script.result (subst (λ scope. IsAnswer (checked_in scope c.args.script.now) c.read_script.result) c.places_of.ensures c.read_script.ensures)

pub returns-clause-fault : goal.returns-clause-fault
returns-clause-fault c = answer-fault c.args.params c.args.script.now c.read_script.result (subst (λ scope. IsAnswer (checked_in scope c.args.script.now) c.read_script.result) c.places_of.ensures c.read_script.ensures)

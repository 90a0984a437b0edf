use Rattle.el_reader.specs.Inspections.{first_scope}
use Rattle.el_check.specs.Checks.{checked_in}
use Rattle.el_check.proofs.SurveyEnds.{read-right}
use Rattle.el_check.proofs.checking.read_script.Goals as goal

pub returns-in-Ok : goal.returns-in-Ok
returns-in-Ok c =
    let first = first_scope c.args.places in
    read-right first (checked_in first c.args.script.now) c.in_ok-script.script c.in_ok-script.ensures c.end.result c.end.ensures c.in-Ok.tree c.in-Ok.is

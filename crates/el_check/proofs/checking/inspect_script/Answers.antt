use Rattle.std.proofs.Common.{subst}
use Rattle.el_reader.specs.Inspections.{IsEnded, first_scope}
use Rattle.el_check.specs.Checks.{checked_in}
use Rattle.el_check.proofs.SurveyEnds.{end-wrong, end-right}
use Rattle.el_check.proofs.checking.inspect_script.Goals as goal

pub returns-in-Some : goal.returns-in-Some
returns-in-Some c =
    let first = first_scope c.args.places in
    let ended = subst (IsEnded c.in_ok-script.script.reader) c.in-Some.is c.end.ensures in
    end-wrong first (checked_in first c.args.script.now) c.in_ok-script.script c.in_ok-script.ensures c.in-Some.found c.new.result c.from.result ended c.new.ensures.fault c.new.ensures.line c.from.ensures

pub returns : goal.returns
returns c =
    let first = first_scope c.args.places in
    end-right first (checked_in first c.args.script.now) c.in_ok-script.script c.in_ok-script.ensures (subst (IsEnded c.in_ok-script.script.reader) c.in-None.is c.end.ensures)

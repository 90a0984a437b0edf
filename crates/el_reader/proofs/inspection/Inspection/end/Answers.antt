use Rattle.std.proofs.Common.{◌∙◌, ap}
use Rattle.std.specs.Result.{result_err}
use Rattle.el_reader.proofs.InspectionsGo.{ended}
use Rattle.el_reader.proofs.inspection.Inspection.end.Goals as goal

pub returns : goal.returns
returns c = ended c.args.self.now c.err.result (c.err.ensures.value ∙ ap result_err c.judge.ensures)

use Rattle.std.proofs.Common.{refl}
use Rattle.el_reader.proofs.InspectionsGo.{starts}
use Rattle.el_reader.proofs.inspection.InspectionTokenReader.new.Goals as goal

pub returns-clause-read : goal.returns-clause-read
returns-clause-read c = starts c.args.places _ refl c.in_ok-new.ensures c.new.ensures.items

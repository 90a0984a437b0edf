use Rattle.std.proofs.Common.{Option, sym, subst}
use Rattle.el_tree.specs.declared.fault.PlacedFault.{PlacedFault}
use Rattle.el_reader.specs.Readers.{IsTaken}
use Rattle.el_reader.specs.Inspections.{open_levels, HasRead}
use Rattle.el_reader.proofs.InspectionsGo.{judged-taken}
use Rattle.el_reader.proofs.inspection.InspectionTokenReader.take.Goals as goal

pub read-requires : goal.read-requires
read-requires c = c.requires.some.has.in_force

pub returns : goal.returns
returns c = subst (λ (found : Option PlacedFault). IsTaken HasRead open_levels c.args.self.now c.read.new.self c.args.token found) (sym c.err.ensures.value) (judged-taken c.args.self.now c.read.new.self c.args.token c.in_ok-read.field-0 c.requires.may c.in_ok-read.ensures)

use Rattle.el_reader.specs.Inspections.{first_scope}
use Rattle.el_reader.proofs.ReaderReads.{nothing-held}
use Rattle.el_reader.proofs.reader.ReaderTokenReader.new.Goals as goal

pub returns-clause-read : goal.returns-clause-read
returns-clause-read c = nothing-held (first_scope c.args.places) _ c.in_ok-new.ensures.read c.new-2.ensures

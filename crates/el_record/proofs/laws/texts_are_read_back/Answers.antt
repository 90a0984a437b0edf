use Rattle.el_record.proofs.TraceWhole.{texts_are_read_back}
use Rattle.el_record.proofs.laws.texts_are_read_back.Goals as goal

pub returns : goal.returns
returns c = texts_are_read_back

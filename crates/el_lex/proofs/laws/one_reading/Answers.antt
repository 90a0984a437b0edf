use Rattle.el_lex.proofs.Stops.{one-reading}
use Rattle.el_lex.proofs.laws.one_reading.Goals as goal

pub returns : goal.returns
returns c = one-reading

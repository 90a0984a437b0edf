use Rattle.el_record.proofs.TraceWhole.{bad_place_is_one}
use Rattle.el_record.proofs.laws.bad_place_is_one.Goals as goal

pub returns : goal.returns
returns c = bad_place_is_one

use Rattle.el_loops.proofs.InPlace.{put_in_place}
use Rattle.el_loops.proofs.laws.values_are_put_in_place.Goals as goal

pub returns : goal.returns
returns c = put_in_place

use Rattle.el_meaning.proofs.LoopValues.{values-split, pieces-say-nothing, turns-come-in-time}
use Rattle.el_meaning.proofs.laws.loops_split_their_input.Goals as goal

pub returns-clause-values : goal.returns-clause-values
returns-clause-values c = values-split

pub returns-clause-pieces : goal.returns-clause-pieces
returns-clause-pieces c = pieces-say-nothing

pub returns-clause-in_time : goal.returns-clause-in_time
returns-clause-in_time c = turns-come-in-time

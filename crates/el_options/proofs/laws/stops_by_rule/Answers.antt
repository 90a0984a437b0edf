use Rattle.el_options.proofs.Wholes.{whole-front, one-front}
use Rattle.el_options.proofs.laws.stops_by_rule.Goals as goal

pub returns-clause-whole : goal.returns-clause-whole
returns-clause-whole c = whole-front

pub returns-clause-once : goal.returns-clause-once
returns-clause-once c = one-front

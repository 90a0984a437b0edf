-- The proofs of those laws that the functions of laws.rt state alone.
use Rattle.el_reader.proofs.KnownGoes.{judges, knows}
use Rattle.el_reader.proofs.MadeGoes.{makes, makes-tree}

pub ruleset laws = (judges, knows, makes, makes-tree)

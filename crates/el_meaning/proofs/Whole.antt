-- The run of an accepted tree's words makes what the tree means.
use Rattle.std.proofs.Common.{le_refl}
use Rattle.el_proc.specs.Inputs.{most_units}
use Rattle.el_machine.specs.Flat.{flat_run}
use Rattle.el_meaning.specs.Meaning.{whole_meaning}
use Rattle.el_meaning.specs.Laws.{RunIsMeaning}
use Rattle.el_meaning.proofs.Simulation.{simulates}

pub run-is-meaning : RunIsMeaning
unfolding most_units flat_run whole_meaning
run-is-meaning tree members scope state units found accepted meets few = (simulates tree members scope state units most_units most_units accepted.well_formed.formed accepted.keeps meets few few).same units (le_refl units) found

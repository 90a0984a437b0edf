use Rattle.el_app.proofs.NoNuls.{base_without_nul}
use Rattle.el_app.proofs.programs.execline.run_execline.Goals as goal

pub run_named-requires-clause-no_nul : goal.run_named-requires-clause-no_nul
run_named-requires-clause-no_nul g c = rw c.base_name-name.ensures (base_without_nul c.in-Some.word.now c.in-Some.ensures.steps.1)

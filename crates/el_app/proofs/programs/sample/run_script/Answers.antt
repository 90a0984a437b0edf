use Rattle.std.proofs.Common.{refl}
use Rattle.el_world.proofs.Follows.{plan_then, plan_stopped}
use Rattle.el_app.specs.Elcheck.{script_run}
use Rattle.el_app.proofs.programs.sample.run_script.Goals as goal

pub returns-in-Ok : goal.returns-in-Ok
unfolding script_run
returns-in-Ok g c = plan_then _ (rw c.in-Ok.is at c.script_words.ensures) c.run.ensures.run

pub returns-in-Err : goal.returns-in-Err
unfolding script_run
returns-in-Err g c = plan_stopped _ (rw c.in-Err.is at c.script_words.ensures) refl

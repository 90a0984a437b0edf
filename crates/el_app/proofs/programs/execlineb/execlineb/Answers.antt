use Rattle.std.proofs.Common.{arith}
use Rattle.el_app.proofs.Calls.{call_tells, call_run, call_spent}
use Rattle.el_app.proofs.Causes.{call_caused}
use Rattle.el_app.proofs.Held.{keeps_what_is_held}
use Rattle.el_app.proofs.Meanings.{makes_its_meaning, ends_as_it_means}
use Rattle.el_app.proofs.programs.execlineb.execlineb.Goals as goal

pub returns-clause-told : goal.returns-clause-told
returns-clause-told g c = call_tells (rw (c.first_process-proc.ensures.state, c.first_process-proc.ensures.budget) at c.run_execlineb.ensures)

pub returns-clause-headline : goal.returns-clause-headline
returns-clause-headline g c = makes_its_meaning c.args.words.now c.args.env c.args.dir c.args.budget (omega (arith, c.len.ensures.few)) (omega arith) (call_tells (rw (c.first_process-proc.ensures.state, c.first_process-proc.ensures.budget) at c.run_execlineb.ensures))

pub returns-clause-complete : goal.returns-clause-complete
returns-clause-complete g c = ends_as_it_means c.args.words.now c.args.env c.args.dir c.args.budget (omega (arith, c.len.ensures.few)) (omega arith) (call_tells (rw (c.first_process-proc.ensures.state, c.first_process-proc.ensures.budget) at c.run_execlineb.ensures))

pub returns-clause-run : goal.returns-clause-run
returns-clause-run g c = call_run (rw (c.first_process-proc.ensures.state, c.first_process-proc.ensures.budget) at c.run_execlineb.ensures)

pub returns-clause-spent : goal.returns-clause-spent
returns-clause-spent g c = call_spent (rw (c.first_process-proc.ensures.state, c.first_process-proc.ensures.budget) at c.run_execlineb.ensures)

pub returns-clause-held : goal.returns-clause-held
returns-clause-held g c = keeps_what_is_held (g.met.W.World.held_are_given c.args.world.now) c.run_execlineb.result (rw (c.first_process-proc.ensures.state, c.first_process-proc.ensures.budget) at c.run_execlineb.ensures)

pub returns-clause-cause : goal.returns-clause-cause
returns-clause-cause g c = call_caused c.args.words.now c.args.env c.args.dir c.run_execlineb.result (rw (c.first_process-proc.ensures.state, c.first_process-proc.ensures.budget) at c.run_execlineb.ensures)

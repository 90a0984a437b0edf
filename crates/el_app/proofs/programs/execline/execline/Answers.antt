use Rattle.std.proofs.Common.{arith}
use Rattle.el_app.specs.First.{first_state}
use Rattle.el_app.proofs.Calls.{call_tells, call_run, call_spent}
use Rattle.el_app.proofs.Causes.{call_caused, vector_caused}
use Rattle.el_app.proofs.Held.{keeps_what_is_held, vector_keeps}
use Rattle.el_app.proofs.Meanings.{call-is, makes_its_meaning, ends_as_it_means}
use Rattle.el_app.proofs.Vectors.{vector-is}
use Rattle.el_app.proofs.programs.execline.execline.Goals as goal

pub returns-clause-told : goal.returns-clause-told
returns-clause-told g c = call_tells (rw (c.iter.ensures.rest, c.first_process-proc.ensures.state, c.first_process-proc.ensures.budget) at c.run_execline.ensures)

pub returns-clause-headline : goal.returns-clause-headline
returns-clause-headline g c = λ call is.
    let chosen = call-is call (first_state c.args.env c.args.dir) c.args.words.now is in
    makes_its_meaning call c.args.env c.args.dir c.args.budget (omega (arith, c.iter.ensures.few, chosen.few)) (omega arith)
    (call_tells (rw (c.iter.ensures.rest, c.first_process-proc.ensures.state, c.first_process-proc.ensures.budget, chosen.runs) at c.run_execline.ensures))

pub returns-clause-complete : goal.returns-clause-complete
returns-clause-complete g c = λ call is.
    let chosen = call-is call (first_state c.args.env c.args.dir) c.args.words.now is in
    ends_as_it_means call c.args.env c.args.dir c.args.budget (omega (arith, c.iter.ensures.few, chosen.few)) (omega arith)
    (call_tells (rw (c.iter.ensures.rest, c.first_process-proc.ensures.state, c.first_process-proc.ensures.budget, chosen.runs) at c.run_execline.ensures))

pub returns-clause-run : goal.returns-clause-run
returns-clause-run g c = call_run (rw (c.iter.ensures.rest, c.first_process-proc.ensures.state, c.first_process-proc.ensures.budget) at c.run_execline.ensures)

pub returns-clause-spent : goal.returns-clause-spent
returns-clause-spent g c = call_spent (rw (c.iter.ensures.rest, c.first_process-proc.ensures.state, c.first_process-proc.ensures.budget) at c.run_execline.ensures)

pub returns-clause-held : goal.returns-clause-held
returns-clause-held g c = λ call is.
    let chosen = call-is call (first_state c.args.env c.args.dir) c.args.words.now is in
    keeps_what_is_held (g.met.W.World.held_are_given c.args.world.now) c.run_execline.result (rw (c.iter.ensures.rest, c.first_process-proc.ensures.state, c.first_process-proc.ensures.budget, chosen.runs) at c.run_execline.ensures)

pub returns-clause-cause : goal.returns-clause-cause
returns-clause-cause g c = λ call is.
    let chosen = call-is call (first_state c.args.env c.args.dir) c.args.words.now is in
    call_caused call c.args.env c.args.dir c.run_execline.result (rw (c.iter.ensures.rest, c.first_process-proc.ensures.state, c.first_process-proc.ensures.budget, chosen.runs) at c.run_execline.ensures)

pub returns-clause-vector_held : goal.returns-clause-vector_held
returns-clause-vector_held g c = λ vector is.
    let runs = vector-is vector (first_state c.args.env c.args.dir) c.args.words.now is in
    vector_keeps (g.met.W.World.held_are_given c.args.world.now) c.run_execline.result (rw (c.iter.ensures.rest, c.first_process-proc.ensures.state, c.first_process-proc.ensures.budget, runs) at c.run_execline.ensures)

pub returns-clause-vector_cause : goal.returns-clause-vector_cause
returns-clause-vector_cause g c = λ vector is.
    let runs = vector-is vector (first_state c.args.env c.args.dir) c.args.words.now is in
    vector_caused vector c.args.env c.args.dir c.run_execline.result (rw (c.iter.ensures.rest, c.first_process-proc.ensures.state, c.first_process-proc.ensures.budget, runs) at c.run_execline.ensures)

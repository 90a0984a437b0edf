use Rattle.std.proofs.Common.{sym, ◌∙◌}
use Rattle.std.proofs.lemmas.Result.{err_from_is_err_and}
use Rattle.el_world.proofs.Runs.{done_then}
use Rattle.el_proc.specs.Children.{first_word, running}
use Rattle.el_proc.proofs.Causes.{cause_later, wait_caused}
use Rattle.el_proc.proofs.Unstarted.{over, over_short}
use Rattle.el_proc.proofs.child.run_child.Goals as goal

pub returns-in-Some-clause-cause : goal.returns-in-Some-clause-cause
returns-in-Some-clause-cause g c = cause_later c.start_child.ensures.cause.later (wait_caused c.args.proc.now.fds c.args.name.now c.in-Some.pid c.wait_for.result c.wait_for.ensures.run)

pub returns-in_ok-tell_unstarted-in-None-clause-run : goal.returns-in_ok-tell_unstarted-in-None-clause-run
unfolding running
returns-in_ok-tell_unstarted-in-None-clause-run g c =
    let none = sym c.pid.ensures ∙ c.in-None.is in
    done_then _ c.in-Ok.ensures.run (over c.args.proc.now.fds c.args.name.now (first_word c.args.words.now) c.in-Ok.started none c.in_ok-tell_unstarted-in-None.ensures.run)

pub returns-in_err-tell_unstarted-in-None-clause-run : goal.returns-in_err-tell_unstarted-in-None-clause-run
unfolding running
returns-in_err-tell_unstarted-in-None-clause-run g c =
    let none = sym c.pid.ensures ∙ c.in-None.is in
    let e = err_from_is_err_and c.from_residual.result c.from_residual.ensures.1 in
    rw (e.1, e.2) (done_then _ c.in-Ok.ensures.run (over_short c.args.proc.now.fds c.args.name.now (first_word c.args.words.now) c.in-Ok.started none c.in_err-tell_unstarted-in-None.ensures.run))

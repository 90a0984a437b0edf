use Rattle.el_room.proofs.Vocabulary.{State, plan_then, act_then, follows_done, state_of, follows_refused}
use Rattle.std.proofs.Common.{refl, ap}
use Rattle.el_app.specs.Files.{opened_script, after_reads}
use Rattle.el_app.proofs.file.read_opened.Goals as goal

pub returns-in-Some-clause-run : goal.returns-in-Some-clause-run
unfolding opened_script
returns-in-Some-clause-run g c =
    plan_then (after_reads c.args.name.now (state_of c.args.proc.now) c.args.handle) (rw c.in-Some.is at c.in_ok-script.ensures.run) (act_then _ c.close.ensures.run (follows_done refl))

pub returns-in-None-clause-run : goal.returns-in-None-clause-run
unfolding opened_script
returns-in-None-clause-run g c =
    let same = ap (λ (state : State). state.fds) c.in_ok-script.ensures.state in
    plan_then (after_reads c.args.name.now (state_of c.args.proc.now) c.args.handle) (rw c.in-None.is at c.in_ok-script.ensures.run) (act_then _ c.close.ensures.run (follows_refused (rw same at c.refused.ensures.run)))

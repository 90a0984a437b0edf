use Rattle.el_room.proofs.Vocabulary.{events_of, state_of}
use Rattle.std.proofs.Common.{sym, subst}
use Rattle.el_machine.specs.Flat.{flat_run}
use Rattle.el_trace.specs.Checked.{begun_state}
use Rattle.el_trace.specs.Replayed.{IsReplayed}
use Rattle.el_trace.proofs.Verdicts.{replayed_so}
use Rattle.el_trace.proofs.checking.replayed.Goals as goal

pub returns : goal.returns
returns c =
    subst (λ own. IsReplayed (flat_run c.args.words (begun_state c.args.env.now c.args.dir.now)) c.args.budget (events_of c.args.recorded.now) own c.run-finish.result) (sym c.into_log.ensures.log)
    (replayed_so c.in_ok-proc.proc.words c.args.words (state_of c.in_ok-proc.proc) (begun_state c.args.env.now c.args.dir.now) c.in_ok-proc.proc.budget c.args.budget _ c.run-finish.result _ (events_of c.args.recorded.now) c.new-world.result c.run-finish.new.world
    c.new-world.ensures c.in_ok-proc.ensures.words_are c.in_ok-proc.ensures.state_is c.in_ok-proc.ensures.units_are c.run-finish.ensures.run c.into_log.ensures.retraces)

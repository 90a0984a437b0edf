use Rattle.el_room.proofs.Vocabulary.{plan_then, plan_stopped, act_then, follows_done, usable_held, usable_streams}
use Rattle.std.proofs.Common.{refl}
use Rattle.el_loops.specs.Forbacktickx.{over_reader}
use Rattle.el_loops.proofs.Breaks.{own_vars}
use Rattle.el_loops.proofs.programs.forbacktickx.turns_over_reader.Goals as goal

pub turns_over-requires-clause-may : goal.turns_over-requires-clause-may
turns_over-requires-clause-may g c = record {
  good = c.requires.good;
  can = record {
    usable = c.requires.usable;
    streams = rw c.streams.ensures (usable_streams _ c.args.proc.now.fds c.requires.usable);
    input = usable_held _ c.args.ends.reader c.requires.loose.is_open;
    is_open = c.requires.loose.is_open;
    apart = c.requires.loose.apart;
  };
  are = own_vars _ _ c.in_ok-all.ensures.env;
}

pub returns-in_err-wait_for-clause-run : goal.returns-in_err-wait_for-clause-run
unfolding over_reader
returns-in_err-wait_for-clause-run g c =
    let turned = rw (c.streams.ensures, c.requires.rest) at c.in_ok-turns_over.ensures.run in
    rw c.in_ok-turns_over.ensures.state
    (plan_then _ turned (act_then _ c.close_handle.ensures.run (plan_stopped _ (rw c.in_ok-turns_over.ensures.state at c.in_err-wait_for.ensures.run) c.from_residual-in_err-wait_for.ensures.1)))

pub returns-clause-run : goal.returns-clause-run
unfolding over_reader
returns-clause-run g c =
    let turned = rw (c.streams.ensures, c.requires.rest) at c.in_ok-turns_over.ensures.run in
    rw c.in_ok-turns_over.ensures.state
    (plan_then _ turned (act_then _ c.close_handle.ensures.run (plan_then _ (rw c.in_ok-turns_over.ensures.state at c.in_ok-wait_for.ensures.run) (follows_done refl))))

use Rattle.el_room.proofs.Vocabulary.{memory_short, plan_then, plan_stopped, plan_assoc, State, state_of, usable_streams, read_of, acting, acted}
use Rattle.std.proofs.Common.{None, refl, ap}
use Rattle.el_loops.specs.Turns.{loop_end}
use Rattle.el_loops.specs.Forbacktickx.{forbacktickx_loop, forbacktickx}
use Rattle.el_loops.proofs.Breaks.{plan_as}
use Rattle.el_loops.proofs.programs.forbacktickx.forbacktickx.Goals as goal

pub returns-in_err-begin : goal.returns-in_err-begin
unfolding acting forbacktickx
returns-in_err-begin g c =
    let begun = rw c.in_ok-rest.ensures at c.in_err-begin.ensures.run in
    acted (plan_assoc _ _ _ (plan_stopped _ begun c.from_residual-in_err-begin.ensures.1)) c.in_err-begin.ensures.usable

pub returns-in_err-block : goal.returns-in_err-block
unfolding acting forbacktickx
returns-in_err-block g c =
    let begun = rw c.in_ok-rest.ensures at c.in_ok-begin.ensures.run in
    acted (plan_assoc _ _ _ (plan_then _ begun (memory_short c.from_residual-in_err-block.ensures.1))) c.in_ok-begin.ensures.usable

pub returns-in_err-made : goal.returns-in_err-made
unfolding acting forbacktickx
returns-in_err-made g c =
    let begun = rw c.in_ok-rest.ensures at c.in_ok-begin.ensures.run in
    let made = rw (c.in_err-made.ensures.state, c.in_ok-block.ensures) at c.in_err-made.ensures.run in
    acted
    (rw c.in_err-made.ensures.state (plan_assoc _ _ _ (plan_then _ begun (plan_assoc _ _ _ (plan_stopped _ made c.from_residual-in_err-made.ensures.1)))))
    c.in_err-made.ensures.usable

pub end_loop-requires : goal.end_loop-requires
end_loop-requires g c =
    let fds = ap (λ (s : State). s.fds) c.in_ok-made.ensures.state in
    record {
      usable = c.in_ok-made.ensures.usable;
      streams = rw c.streams.ensures (usable_streams _ c.args.proc.now.fds (rw fds at c.in_ok-made.ensures.usable));
      input = refl;
      is_open = tt;
      apart = tt;
    }

pub returns : goal.returns
unfolding acting forbacktickx
returns g c =
    let begun = rw c.in_ok-rest.ensures at c.in_ok-begin.ensures.run in
    let made = rw (c.in_ok-made.ensures.state, c.in_ok-block.ensures) at c.in_ok-made.ensures.run in
    let looping = forbacktickx_loop (read_of c.args.front) None (state_of c.args.proc.now) in
    let ended = rw (c.streams.ensures, c.in_ok-rest.ensures, c.deref.ensures.value) at c.end_loop.ensures.run in
    let ended_so = plan_as (λ s. loop_end (record looping { state = s }) c.in_ok-made.made.items) c.in_ok-made.ensures.state refl ended in
    acted
    (rw c.in_ok-made.ensures.state (plan_assoc _ _ _ (plan_then _ begun (plan_assoc _ _ _ (plan_then _ made (plan_stopped _ ended_so refl))))))
    c.end_loop.ensures.usable

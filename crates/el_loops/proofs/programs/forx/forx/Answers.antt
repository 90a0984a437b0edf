use Rattle.el_room.proofs.Vocabulary.{memory_short, plan_then, plan_stopped, plan_assoc, state_of, usable_streams, read_of, acting, acted}
use Rattle.std.proofs.Common.{refl}
use Rattle.el_loops.specs.Turns.{loop_end}
use Rattle.el_loops.specs.Forx.{forx_loop, forx}
use Rattle.el_loops.proofs.Breaks.{own_vars, plan_as}
use Rattle.el_loops.proofs.programs.forx.forx.Goals as goal

pub returns-in_err-begin : goal.returns-in_err-begin
unfolding acting forx
returns-in_err-begin g c =
    let begun = rw c.in_ok-rest.ensures at c.in_err-begin.ensures.run in
    acted (plan_assoc _ _ _ (plan_stopped _ begun c.from_residual-in_err-begin.ensures.1)) c.in_err-begin.ensures.usable

pub returns-in_err-values : goal.returns-in_err-values
unfolding acting forx
returns-in_err-values g c =
    let begun = rw c.in_ok-rest.ensures at c.in_ok-begin.ensures.run in
    acted (plan_assoc _ _ _ (plan_then _ begun (memory_short c.from_residual-in_err-values.ensures.1))) c.in_ok-begin.ensures.usable

pub returns-in_err-all : goal.returns-in_err-all
unfolding acting forx
returns-in_err-all g c =
    let begun = rw c.in_ok-rest.ensures at c.in_ok-begin.ensures.run in
    acted (plan_assoc _ _ _ (plan_then _ begun (memory_short c.from_residual-in_err-all.ensures.1))) c.in_ok-begin.ensures.usable

pub make_turns-requires : goal.make_turns-requires
make_turns-requires g c = record {
  good = c.in_ok-begin.ensures.good;
  can = record { usable = c.in_ok-begin.ensures.usable; streams = rw c.streams.ensures (usable_streams _ c.args.proc.now.fds c.in_ok-begin.ensures.usable); input = refl; is_open = tt; apart = tt };
  are = own_vars _ _ c.in_ok-all.ensures.env;
}

pub returns-in_err-make_turns : goal.returns-in_err-make_turns
unfolding acting forx
returns-in_err-make_turns g c =
    let begun = rw c.in_ok-rest.ensures at c.in_ok-begin.ensures.run in
    let turned = rw (c.in_err-make_turns.ensures.state, c.streams.ensures, c.in_ok-rest.ensures, c.in_ok-all.ensures.made, c.in_ok-values.ensures) at c.in_err-make_turns.ensures.run in
    acted
    (rw c.in_err-make_turns.ensures.state (plan_assoc _ _ _ (plan_then _ begun (plan_assoc _ _ _ (plan_stopped _ turned c.from_residual-in_err-make_turns.ensures.1)))))
    c.in_err-make_turns.ensures.usable

pub returns : goal.returns
unfolding acting forx
returns g c =
    let begun = rw c.in_ok-rest.ensures at c.in_ok-begin.ensures.run in
    let turned = rw (c.in_ok-make_turns.ensures.state, c.streams.ensures, c.in_ok-rest.ensures, c.in_ok-all.ensures.made, c.in_ok-values.ensures) at c.in_ok-make_turns.ensures.run in
    let looping = forx_loop (read_of c.args.front) (state_of c.args.proc.now) in
    let ended = rw (c.streams.ensures, c.in_ok-rest.ensures, c.deref.ensures.value) at c.end_loop.ensures.run in
    let ended_so = plan_as (λ s. loop_end (record looping { state = s }) c.make_turns.new.all.made.items) c.in_ok-make_turns.ensures.state refl ended in
    acted
    (rw c.in_ok-make_turns.ensures.state (plan_assoc _ _ _ (plan_then _ begun (plan_assoc _ _ _ (plan_then _ turned (plan_stopped _ ended_so refl))))))
    c.end_loop.ensures.usable

use Rattle.el_room.proofs.Vocabulary.{memory_short, plan_then, plan_stopped, plan_assoc, usable_set, usable_streams, streams_in, state_of, read_of, acting, acted}
use Rattle.std.proofs.Common.{None, refl, sym, ◌∙◌}
use Rattle.el_proc.proofs.Usable.{usable_at}
use Rattle.el_loops.specs.Turns.{loop_end}
use Rattle.el_loops.specs.Forstdin.{forstdin_loop, over_number, forstdin}
use Rattle.el_loops.proofs.Breaks.{own_vars, plan_as}
use Rattle.el_loops.proofs.programs.forstdin.forstdin.Goals as goal

pub returns-in_err-begin : goal.returns-in_err-begin
unfolding acting forstdin
returns-in_err-begin g c =
    let begun = rw c.in_ok-rest.ensures at c.in_err-begin.ensures.run in
    acted (plan_assoc _ _ _ (plan_stopped _ begun c.from_residual-in_err-begin.ensures.1)) c.in_err-begin.ensures.usable

pub returns-in_err-all : goal.returns-in_err-all
unfolding acting forstdin
returns-in_err-all g c =
    let begun = rw c.in_ok-rest.ensures at c.in_ok-begin.ensures.run in
    acted (plan_assoc _ _ _ (plan_then _ begun (memory_short c.from_residual-in_err-all.ensures.1))) c.in_ok-begin.ensures.usable

pub turns_over-requires-clause-may : goal.turns_over-requires-clause-may
turns_over-requires-clause-may g c = record {
  good = c.in_ok-begin.ensures.good;
  can = record {
    usable = c.in_ok-begin.ensures.usable;
    streams = rw c.streams-streams.ensures (usable_set _ (streams_in c.args.proc.now.fds) 0 None (usable_streams _ c.args.proc.now.fds c.in_ok-begin.ensures.usable) refl);
    input = rw c.input.ensures (usable_at _ c.args.proc.now.fds 0 c.in_ok-begin.ensures.usable);
    is_open = tt;
    apart = tt;
  };
  are = own_vars _ _ c.in_ok-all.ensures.env;
}

pub returns-in_err-turns_over : goal.returns-in_err-turns_over
unfolding acting forstdin over_number
returns-in_err-turns_over g c =
    let begun = rw c.in_ok-rest.ensures at c.in_ok-begin.ensures.run in
    let turned = rw (c.in_err-turns_over.ensures.state, c.streams-streams.ensures, c.in_ok-rest.ensures) at c.in_err-turns_over.ensures.run in
    let held = sym c.input.ensures ∙ c.in-Some.is in
    acted
    (rw c.in_err-turns_over.ensures.state (plan_assoc _ _ _ (plan_then _ begun (rw held (plan_assoc _ _ _ (plan_stopped _ turned c.from_residual-in_err-turns_over.ensures.1))))))
    c.in_err-turns_over.ensures.usable

pub returns : goal.returns
unfolding acting forstdin over_number
returns g c =
    let begun = rw c.in_ok-rest.ensures at c.in_ok-begin.ensures.run in
    let turned = rw (c.in_ok-turns_over.ensures.state, c.streams-streams.ensures, c.in_ok-rest.ensures) at c.in_ok-turns_over.ensures.run in
    let held = sym c.input.ensures ∙ c.in-Some.is in
    let looping = forstdin_loop (read_of c.args.front) (state_of c.args.proc.now) in
    let ended = rw (c.streams-streams.ensures, c.in_ok-rest.ensures, c.deref.ensures.value) at c.end_loop.ensures.run in
    let ended_so = plan_as (λ s. loop_end (record looping { state = s }) c.turns_over.new.all.made.items) c.in_ok-turns_over.ensures.state refl ended in
    acted
    (rw c.in_ok-turns_over.ensures.state (plan_assoc _ _ _ (plan_then _ begun (rw held (plan_assoc _ _ _ (plan_then _ turned (plan_stopped _ ended_so refl)))))))
    c.end_loop.ensures.usable

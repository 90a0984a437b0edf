use Rattle.el_room.proofs.Vocabulary.{State, plan_then, plan_stopped, follows_done, held_in, follows_refused}
use Rattle.std.proofs.Common.{◌≡◌, None, Ok, sym, ap, ◌∙◌, arith}
use Rattle.el_world.proofs.Follows.{plan_short}
use Rattle.el_vars.specs.Withstdinas.{value_read}
use Rattle.el_vars.proofs.programs.withstdinas.read_value.Goals as goal

pub returns-in_default-clause-run : goal.returns-in_default-clause-run
unfolding value_read
returns-in_default-clause-run g c =
    let none : held_in c.args.proc.now.fds 0 ≡ None = grind arith in
    rw none (follows_refused c.refused.ensures.run)

pub returns-in_err-text-clause-run : goal.returns-in_err-text-clause-run
unfolding value_read
returns-in_err-text-clause-run g c =
    let some = sym c.input.ensures ∙ c.in-Some.is in
    let read = sym c.text_or_end.ensures ∙ c.in_err-text.was in
    rw some (plan_stopped _ (rw read at c.gather.ensures.run) c.from_residual.ensures.1)

pub returns-in_err-input_word-in-Some-2-clause-run : goal.returns-in_err-input_word-in-Some-2-clause-run
unfolding value_read
returns-in_err-input_word-in-Some-2-clause-run g c =
    let some = sym c.input.ensures ∙ c.in-Some.is in
    let read = sym c.text_or_end.ensures ∙ c.in_ok-text.was ∙ ap Ok c.in-Some-2.is in
    rw some (plan_short _ (rw read at c.gather.ensures.run) c.from_residual-in_err-input_word-in-Some-2.ensures.1)

pub returns-in_ok-input_word-in-Some-2-clause-run : goal.returns-in_ok-input_word-in-Some-2-clause-run
unfolding value_read
returns-in_ok-input_word-in-Some-2-clause-run g c =
    let some = sym c.input.ensures ∙ c.in-Some.is in
    let read = sym c.text_or_end.ensures ∙ c.in_ok-text.was ∙ ap Ok c.in-Some-2.is in
    rw some (plan_then _ (rw read at c.gather.ensures.run) (follows_done (sym (rw c.as_bytes.ensures at c.in_ok-input_word-in-Some-2.ensures))))

pub returns-in-None-clause-run : goal.returns-in-None-clause-run
unfolding value_read
returns-in-None-clause-run g c =
    let some = sym c.input.ensures ∙ c.in-Some.is in
    let read = sym c.text_or_end.ensures ∙ c.in_ok-text.was ∙ ap Ok c.in-None.is in
    let fds = ap (λ (s : State). s.fds) c.gather.ensures.state in
    rw (some, c.gather.ensures.state) (plan_then _ (rw (read, c.gather.ensures.state) at c.gather.ensures.run) (follows_refused (rw fds at c.refused-in-None.ensures.run)))

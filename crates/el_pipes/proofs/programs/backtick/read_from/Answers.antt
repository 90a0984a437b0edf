use Rattle.el_room.proofs.Vocabulary.{plan_then, plan_stopped, act_then, text_of}
use Rattle.std.proofs.Common.{◌≡◌, Err, sym, ◌∙◌}
use Rattle.el_pipes.specs.Backtick.{read_from}
use Rattle.el_pipes.proofs.programs.backtick.read_from.Goals as goal

pub returns-in_err-text-clause-run : goal.returns-in_err-text-clause-run
unfolding read_from
returns-in_err-text-clause-run g c =
    let read : text_of c.gather.result ≡ Err c.in_err-text.field-0.0 = cc in
    act_then _ c.close_end.ensures.run (plan_stopped _ (rw read at c.gather.ensures.run) c.from_residual.ensures.1)

pub returns-clause-run : goal.returns-clause-run
unfolding read_from
returns-clause-run g c =
    let read = sym c.text_or_end.ensures ∙ c.in_ok-text.was in
    rw c.gather.ensures.state
    (act_then _ c.close_end.ensures.run
    (plan_then _ (rw read at c.gather.ensures.run) (act_then _ c.close_handle.ensures.run (rw c.gather.ensures.state at c.wait_behind.ensures.run))))

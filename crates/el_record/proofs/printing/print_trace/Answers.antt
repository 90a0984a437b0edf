use Rattle.std.proofs.Common.{◌∙◌}
use Rattle.std.proofs.lemmas.Result.{IfOk-weaker}
use Rattle.el_record.proofs.Printed.{puts_then, whole_text}
use Rattle.el_record.proofs.printing.print_trace.Goals as goal

pub returns : goal.returns
returns c =
    IfOk-weaker c.into_text.result _ _ (λ text is. is ∙ whole_text (puts_then (rw c.new-out.ensures at c.in_ok-put_events.ensures) c.in_ok-put_run_end.ensures)) c.into_text.ensures

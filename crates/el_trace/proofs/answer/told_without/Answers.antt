use Rattle.el_trace.specs.Answered.{rejected, accepted}
use Rattle.el_trace.proofs.Verdicts.{ok_map}
use Rattle.el_trace.proofs.answer.told_without.Goals as goal

pub returns-in-Ok : goal.returns-in-Ok
returns-in-Ok c = ok_map c.bad_trace_shown.result (λ shown shows. accepted c.in-Ok.ensures.ok.0 c.in-Ok.ensures.ok.1 shows) c.bad_trace_shown.ensures

pub returns-in-Err-Script : goal.returns-in-Err-Script
returns-in-Err-Script c =
    ok_map c.bad_script_shown.result (λ shown shows. rejected c.in-Err-Script.field-0-0 c.in-Err-Script.field-0-1 (rw c.in-Err-Script.field-0-is at c.in-Err-Script.ensures.err) shows) c.bad_script_shown.ensures

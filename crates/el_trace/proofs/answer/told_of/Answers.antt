use Rattle.el_world.specs.Log.{events_of}
use Rattle.el_trace.specs.Answered.{refused, judged, greatest}
use Rattle.el_trace.proofs.Answering.{judged_at}
use Rattle.el_trace.proofs.Verdicts.{ok_map}
use Rattle.el_trace.proofs.answer.told_of.Goals as goal

pub returns-in-Ok : goal.returns-in-Ok
returns-in-Ok c =
    ok_map c.verdict_shown.result
    (λ shown shows. judged c.in-Ok.verdict (judged_at c.args.script.now _ _ _ _ greatest (events_of c.args.trace.now.log) c.args.trace.now.end c.in-Ok.verdict c.new.ensures c.new-2.ensures c.new-env.ensures c.in_ok-dir.ensures c.in-Ok.ensures.ok) shows)
    c.verdict_shown.ensures

pub returns-in-Err-Script : goal.returns-in-Err-Script
returns-in-Err-Script c =
    ok_map c.bad_script_shown.result (λ shown shows. refused c.in-Err-Script.field-0-0 c.in-Err-Script.field-0-1 (rw c.in-Err-Script.field-0-is at c.in-Err-Script.ensures.err) shows) c.bad_script_shown.ensures

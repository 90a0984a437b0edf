use Rattle.el_world.specs.Log.{events_of}
use Rattle.el_trace.specs.Answered.{read, unread}
use Rattle.el_trace.proofs.Answering.{recordable_lawful}
use Rattle.el_trace.proofs.Verdicts.{ok_map}
use Rattle.el_trace.proofs.answer.trace_answer.Goals as goal

pub told_of-requires : goal.told_of-requires
told_of-requires c = recordable_lawful (events_of c.in-Ok.trace.log) c.in-Ok.ensures.ok.events_are

pub returns-in-Ok : goal.returns-in-Ok
returns-in-Ok c = ok_map c.told_of.result (λ shown told. read (events_of c.in-Ok.trace.log) c.in-Ok.trace.end c.in-Ok.ensures.ok told) c.told_of.ensures

pub returns-in-Err-BadTrace : goal.returns-in-Err-BadTrace
returns-in-Err-BadTrace c =
    ok_map c.told_without.result (λ shown told. unread c.in-Err-BadTrace.field-0-0 (rw c.in-Err-BadTrace.field-0-is at c.in-Err-BadTrace.ensures.bad) told) c.told_without.ensures

use Rattle.std.proofs.Common.{refl, sym}
use Rattle.el_record.proofs.TraceWhole.{trace_is_one}
use Rattle.el_record.proofs.Parsed.{nothing_left, something_left, absent_so, ends_text, is_within, stops_there, end_within, goes_on_there, bad_answer}
use Rattle.el_record.proofs.parsing.parse_trace.Goals as goal

pub overflow_sub-at : goal.overflow_sub-at
overflow_sub-at c = is_within c.in_ok-log.ensures

pub returns-in-Ok-clause-ok : goal.returns-in-Ok-clause-ok
returns-in-Ok-clause-ok c = ends_text c.in-Ok.end _ c.in_ok-log.ensures c.in-Ok.ensures (nothing_left _ (sym c.if-is_empty.ensures))

pub returns-in-Ok-clause-only : goal.returns-in-Ok-clause-only
returns-in-Ok-clause-only c = λ events end is.
    trace_is_one _ _ events _ end (ends_text c.in-Ok.end _ c.in_ok-log.ensures c.in-Ok.ensures (nothing_left _ (sym c.if-is_empty.ensures))) is

pub overflow_sub-result : goal.overflow_sub-result
overflow_sub-result c = end_within c.in-Ok-2.field-0 _ c.in_ok-log.ensures c.in-Ok-2.ensures

pub returns-in-Ok-2-clause-bad : goal.returns-in-Ok-2-clause-bad
returns-in-Ok-2-clause-bad c = goes_on_there _ c.in-Ok-2.field-0 _ c.in_ok-log.ensures c.in-Ok-2.ensures refl (something_left _ (sym c.if-is_empty.ensures))

pub returns-in-Ok-2-clause-only : goal.returns-in-Ok-2-clause-only
returns-in-Ok-2-clause-only c =
    bad_answer _ (goes_on_there _ c.in-Ok-2.field-0 _ c.in_ok-log.ensures c.in-Ok-2.ensures refl (something_left _ (sym c.if-is_empty.ensures)))

pub returns-in-Err-Absent-clause-bad : goal.returns-in-Err-Absent-clause-bad
returns-in-Err-Absent-clause-bad c = stops_there _ c.in_ok-log.ensures refl (absent_so _ c.in-Err-Absent.field-0 _ c.in-Err-Absent.ensures c.in-Err-Absent.field-0-is)

pub returns-in-Err-Absent-clause-only : goal.returns-in-Err-Absent-clause-only
returns-in-Err-Absent-clause-only c =
    bad_answer _ (stops_there _ c.in_ok-log.ensures refl (absent_so _ c.in-Err-Absent.field-0 _ c.in-Err-Absent.ensures c.in-Err-Absent.field-0-is))

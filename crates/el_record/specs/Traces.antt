-- Texts that are a trace's, and those that aren't.
use Rattle.std.specs.Prelude.{◌≡◌, ◌⊎◌, ℕ, List, Result, Ok, Err}
use Rattle.el_world.specs.declared.event.Event.{Event}
use Rattle.el_world.specs.Log.{events_of}
use Rattle.el_record.specs.declared.trace.RunEnd.{RunEnd}
use Rattle.el_record.specs.declared.trace.Trace.{Trace}
use Rattle.el_record.specs.declared.parsing.TraceFault.{TraceFault}
use Rattle.el_record.specs.declared.parsing.TraceFault.TheVariants.{BadTrace, NoMemory}
use Rattle.el_record.specs.Recordable.{AreRecordable, IsRunEnd}
use Rattle.el_record.specs.TraceText.{trace_text}
use Rattle.el_record.specs.BadTraces.{StopsAt, GoesOnAt}

-- the text is that of these events and this end, whose parts are in their ranges
pub record IsTextOf (text : List ℕ) (events : List Event) (end : RunEnd) : Type 0 where
  pub same : trace_text events end ≡ text
  pub events_are : AreRecordable events
  pub end_is : IsRunEnd end

-- no record stands here, or bytes stand here behind the end
abbrev pub IsBadAt : List ℕ → ℕ → Type 0
IsBadAt text at = StopsAt text at ⊎ GoesOnAt text at

-- why a text is no trace's: its place, or want of memory, which is free
abbrev pub IsFault : List ℕ → TraceFault → Type 0
IsFault text (BadTrace at) = IsBadAt text at
IsFault text NoMemory = Unit {0}

-- the trace of these events and this end, or want of memory
abbrev pub IsTraceOr : List Event → RunEnd → Result Trace TraceFault → Type 0
IsTraceOr events end (Ok trace) = (events_of trace.log ≡ events) × (trace.end ≡ end)
IsTraceOr events end (Err (BadTrace at)) = ⊥
IsTraceOr events end (Err NoMemory) = Unit {0}

-- where the text is a trace's, this is its answer
abbrev pub IsAnswer : List ℕ → Result Trace TraceFault → Type 0
IsAnswer text result = (events : List Event) (end : RunEnd) → IsTextOf text events end → IsTraceOr events end result

-- What a reader may conclude of traces' texts.
use Rattle.std.specs.Prelude.{◌≡◌, ◌↔◌, ℕ, List, Some, None, Result}
use Rattle.el_world.specs.declared.event.Event.{Event}
use Rattle.el_record.specs.declared.trace.RunEnd.{RunEnd}
use Rattle.el_record.specs.declared.trace.Trace.{Trace}
use Rattle.el_record.specs.declared.parsing.TraceFault.{TraceFault}
use Rattle.el_record.specs.Recordable.{IsRecordable, AreRecordable, IsRunEnd}
use Rattle.el_record.specs.TraceText.{event_before, run_end_before, trace_text}
use Rattle.el_record.specs.TraceReading.{event_at, run_end_at}
use Rattle.el_record.specs.Traces.{IsTextOf, IsBadAt, IsAnswer, IsTraceOr}

-- the bytes begin with the record of this event, whose parts are in their ranges, and this is the rest
pub record BeginsWithEvent (bytes : List ℕ) (event : Event) (rest : List ℕ) : Type 0 where
  pub fits : IsRecordable event
  pub text : event_before event rest ≡ bytes

-- the bytes begin with the record of this end, whose status is in its range, and this is the rest
pub record BeginsWithEnd (bytes : List ℕ) (end : RunEnd) (rest : List ℕ) : Type 0 where
  pub fits : IsRunEnd end
  pub text : run_end_before end rest ≡ bytes

-- an event is read from bytes exactly where they begin with its record
abbrev pub EventsAreRead : Type 0
EventsAreRead = (bytes : List ℕ) (event : Event) (rest : List ℕ) → (event_at bytes ≡ Some (event, rest)) ↔ BeginsWithEvent bytes event rest

-- no event is read from bytes exactly where they begin with no event's record
abbrev pub NoneIsRead : Type 0
NoneIsRead = (bytes : List ℕ) → (event_at bytes ≡ None) ↔ ((event : Event) (rest : List ℕ) → BeginsWithEvent bytes event rest → ⊥)

-- an end is read from bytes exactly where they begin with its record
abbrev pub EndsAreRead : Type 0
EndsAreRead = (bytes : List ℕ) (end : RunEnd) (rest : List ℕ) → (run_end_at bytes ≡ Some (end, rest)) ↔ BeginsWithEnd bytes end rest

-- no end is read from bytes exactly where they begin with no end's record
abbrev pub NoEndIsRead : Type 0
NoEndIsRead = (bytes : List ℕ) → (run_end_at bytes ≡ None) ↔ ((end : RunEnd) (rest : List ℕ) → BeginsWithEnd bytes end rest → ⊥)

-- a text is that of one trace at most
abbrev pub TraceIsOne : Type 0
TraceIsOne = (text : List ℕ) (events others : List Event) (end other : RunEnd) → IsTextOf text events end → IsTextOf text others other → (events ≡ others) × (end ≡ other)

-- a text that is bad somewhere is no trace's
abbrev pub BadIsNoTrace : Type 0
BadIsNoTrace = (text : List ℕ) (at : ℕ) (events : List Event) (end : RunEnd) → IsBadAt text at → IsTextOf text events end → ⊥

-- a text is bad at one place at most
abbrev pub BadPlaceIsOne : Type 0
BadPlaceIsOne = (text : List ℕ) (at other : ℕ) → IsBadAt text at → IsBadAt text other → at ≡ other

-- what answers of the text of events in their ranges as a reader must, gives these events and this end, or wants memory
abbrev pub TextsAreReadBack : Type 0
TextsAreReadBack = (events : List Event) (end : RunEnd) (answer : Result Trace TraceFault) → AreRecordable events → IsRunEnd end → IsAnswer (trace_text events end) answer → IsTraceOr events end answer

-- Bytes that are no trace's text.
use Rattle.std.specs.Prelude.{◌≡◌, ℕ, ◌≤◌, List, [], None, drop, length}
use Rattle.el_world.specs.declared.event.Event.{Event}
use Rattle.el_record.specs.declared.trace.RunEnd.{RunEnd}
use Rattle.el_record.specs.Recordable.{AreRecordable, IsRunEnd}
use Rattle.el_record.specs.TraceText.{events_before, run_end_before}
use Rattle.el_record.specs.TraceReading.{event_at, run_end_at}

-- the records of events fill the bytes up to this place, and no record stands there
pub record StopsAt (bytes : List ℕ) (at : ℕ) : Type 0 where
  pub within : at ≤ length bytes
  pub events : List Event
  pub events_are : AreRecordable events
  pub filled : events_before events (drop at bytes) ≡ bytes
  pub no_event : event_at (drop at bytes) ≡ None
  pub no_end : run_end_at (drop at bytes) ≡ None

-- the records of events and the end fill the bytes up to this place, and bytes stand there
pub record GoesOnAt (bytes : List ℕ) (at : ℕ) : Type 0 where
  pub events : List Event
  pub events_are : AreRecordable events
  pub end : RunEnd
  pub end_is : IsRunEnd end
  pub filled : events_before events (run_end_before end (drop at bytes)) ≡ bytes
  pub more : drop at bytes ≡ [] → ⊥

-- Logs. Only the code's contracts need it.
use Rattle.std.specs.Prelude.{List}
use Rattle.el_world.specs.declared.event.Event.{Event}
use Rattle.el_world.specs.declared.log.Log.{Log}

-- the events of a log, in order
abbrev pub events_of : Log → List Event
events_of log = log.events.items

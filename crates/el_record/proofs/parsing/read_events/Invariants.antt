use Rattle.std.proofs.Common.{length}
use Rattle.el_world.specs.Log.{events_of}
use Rattle.el_record.proofs.Parsed.{SoFar}
use Rattle.el_record.proofs.parsing.read_events.Given as goal

-- what was read stands before what is to be read
abbrev pub invariant-loop-log : goal.invariant-loop-log
invariant-loop-log l = SoFar l.fn.reader.rest.now (events_of l.log) l.reader.rest.now

abbrev pub decreases-loop-log : goal.decreases-loop-log
decreases-loop-log l = length l.reader.rest.now

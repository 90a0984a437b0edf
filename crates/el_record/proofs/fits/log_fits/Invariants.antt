use Rattle.std.proofs.Common.{drop}
use Rattle.el_world.specs.Log.{events_of}
use Rattle.el_record.specs.Recordable.{AreRecordable}
use Rattle.el_record.proofs.fits.log_fits.Given as goal

-- where the events to come can be written, all can
abbrev pub invariant-loop-place : goal.invariant-loop-place
invariant-loop-place l = AreRecordable (drop l.place (events_of l.log)) → AreRecordable (events_of l.log)

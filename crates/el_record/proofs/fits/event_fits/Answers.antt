use Rattle.std.proofs.Common.{subst, sym}
use Rattle.el_record.specs.Recordable.{IsRecordable}
use Rattle.el_record.proofs.fits.event_fits.Goals as goal

pub returns-in-Close : goal.returns-in-Close
unfolding IsRecordable
returns-in-Close c = subst IsRecordable (sym c.in-Close.is) c.handle_fits.ensures

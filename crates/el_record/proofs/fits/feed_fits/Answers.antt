use Rattle.el_record.specs.Recordable.{IsRecordable, IsHandle}
use Rattle.el_record.proofs.Fitting.{ok_fits, err_fits}
use Rattle.el_record.proofs.fits.feed_fits.Goals as goal

pub returns-in-Ok : goal.returns-in-Ok
unfolding IsRecordable IsHandle
returns-in-Ok c = (c.bytes_fit.ensures, ok_fits _ c.args.answer.now c.in-Ok.handle c.in-Ok.is c.handle_fits.ensures)

pub returns-in_default : goal.returns-in_default
unfolding IsRecordable IsHandle
returns-in_default c = (c.bytes_fit.ensures, err_fits _ c.args.answer.now _ c.in_default.field-0 c.in_default.is c.requires)

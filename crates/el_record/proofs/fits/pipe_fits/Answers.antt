use Rattle.el_record.specs.Recordable.{IsRecordable}
use Rattle.el_record.proofs.Fitting.{ok_fits, err_fits}
use Rattle.el_record.proofs.fits.pipe_fits.Goals as goal

pub returns-in-Ok : goal.returns-in-Ok
unfolding IsRecordable
returns-in-Ok c = ok_fits _ c.args.answer.now c.in-Ok.ends c.in-Ok.is (c.handle_fits.ensures, c.handle_fits-in-Ok.ensures)

pub returns-in_default : goal.returns-in_default
unfolding IsRecordable
returns-in_default c = err_fits _ c.args.answer.now _ c.in_default.field-0 c.in_default.is c.requires

use Rattle.el_world.specs.Lawful.{is_piece}
use Rattle.el_record.specs.Recordable.{IsRecordable}
use Rattle.el_record.proofs.Fitting.{ok_fits, err_fits, passed}
use Rattle.el_record.proofs.fits.read_fits.Goals as goal

pub returns-in-Ok : goal.returns-in-Ok
unfolding IsRecordable
returns-in-Ok c = (c.handle_fits.ensures, ok_fits _ c.args.answer.now c.in-Ok.bytes c.in-Ok.is (c.bytes_fit.ensures, passed c.args.answer.now is_piece c.in-Ok.bytes c.in-Ok.is c.requires))

pub returns-in_default : goal.returns-in_default
unfolding IsRecordable
returns-in_default c = (c.handle_fits.ensures, err_fits _ c.args.answer.now _ c.in_default.field-0 c.in_default.is c.requires)

use Rattle.el_record.specs.Recordable.{IsRecordable}
use Rattle.el_record.proofs.Fitting.{ok_fits, err_fits}
use Rattle.el_record.proofs.fits.enter_fits.Goals as goal

pub returns-in-Ok : goal.returns-in-Ok
unfolding IsRecordable
returns-in-Ok c = (c.word_fits.ensures, c.word_fits-2.ensures, ok_fits _ c.args.answer.now c.in-Ok.found c.in-Ok.is c.word_fits-in-Ok.ensures)

pub returns-in_default : goal.returns-in_default
unfolding IsRecordable
returns-in_default c = (c.word_fits.ensures, c.word_fits-2.ensures, err_fits _ c.args.answer.now _ c.in_default.field-0 c.in_default.is c.requires)

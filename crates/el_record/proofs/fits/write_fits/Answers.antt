use Rattle.el_record.specs.Recordable.{IsRecordable}
use Rattle.el_record.proofs.Fitting.{written_fits}
use Rattle.el_record.proofs.fits.write_fits.Goals as goal

pub returns : goal.returns
unfolding IsRecordable
returns c = (c.handle_fits.ensures, c.bytes_fit.ensures, written_fits c.args.answer.now c.requires)

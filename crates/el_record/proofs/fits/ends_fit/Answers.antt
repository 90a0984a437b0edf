use Rattle.el_record.proofs.Fitting.{three_ends}
use Rattle.el_record.proofs.fits.ends_fit.Goals as goal

pub returns : goal.returns
returns c = three_ends c.args.ends.now c.told-ends c.end_fits.ensures c.end_fits-2.ensures c.end_fits-3.ensures

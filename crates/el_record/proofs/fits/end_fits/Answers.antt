use Rattle.el_record.proofs.Fitting.{end_fits, no_end_fits}
use Rattle.el_record.proofs.fits.end_fits.Goals as goal

pub returns-in-Some : goal.returns-in-Some
returns-in-Some c = end_fits c.args.end c.in-Some.handle c.in-Some.is c.handle_fits.ensures

pub returns-in_default : goal.returns-in_default
returns-in_default c = no_end_fits c.args.end c.in_default.is

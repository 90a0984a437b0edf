use Rattle.el_record.proofs.Fitting.{on_ok}
use Rattle.el_record.proofs.fits.copy_of_variables.Goals as goal

pub returns-clause-fits : goal.returns-clause-fits
returns-clause-fits c = on_ok _ c.copy.result c.in_ok-variables_fit.ensures

use Rattle.el_record.proofs.Fitting.{told_fits, untold_fits}
use Rattle.el_record.proofs.recorder.tell.Goals as goal

pub returns-then-told-clause-fits : goal.returns-then-told-clause-fits
returns-then-told-clause-fits c = told_fits c.args.told c.args.event c.if-told.true c.event_fits.ensures

pub returns-else-told-clause-fits : goal.returns-else-told-clause-fits
returns-else-told-clause-fits c = untold_fits c.args.told c.args.event c.if-told.false

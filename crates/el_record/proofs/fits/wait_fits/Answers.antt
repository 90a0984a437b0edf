use Rattle.el_record.specs.Recordable.{IsRecordable}
use Rattle.el_record.proofs.Fitting.{ended_fits, not_ended_fits}
use Rattle.el_record.proofs.fits.wait_fits.Goals as goal

pub returns-in-Ok : goal.returns-in-Ok
unfolding IsRecordable
returns-in-Ok c = (c.pid_fits.ensures, ended_fits c.args.answer.now c.in-Ok.ended c.in-Ok.is c.ended_fits.ensures c.requires)

pub returns-in_default : goal.returns-in_default
unfolding IsRecordable
returns-in_default c = (c.pid_fits.ensures, not_ended_fits c.args.answer.now c.in_default.field-0 c.in_default.is c.requires)

use Rattle.el_record.proofs.Fitting.{start_fits, started_fits, not_started_fits}
use Rattle.el_record.proofs.fits.start_fits.Goals as goal

pub returns-in-Ok : goal.returns-in-Ok
returns-in-Ok c = start_fits c.args.words.now c.args.env.now c.args.dir.now c.args.ends.now c.args.answer.now c.requires.parts c.words_fit.ensures.few c.words_fit.ensures.texts c.word_fits.ensures c.ends_fit.ensures (started_fits c.args.answer.now c.in-Ok.pid c.in-Ok.is c.pid_fits.ensures)

pub returns-in_default : goal.returns-in_default
returns-in_default c = start_fits c.args.words.now c.args.env.now c.args.dir.now c.args.ends.now c.args.answer.now c.requires.parts c.words_fit.ensures.few c.words_fit.ensures.texts c.word_fits.ensures c.ends_fit.ensures (not_started_fits c.args.answer.now c.in_default.field-0 c.in_default.is c.requires.lawful)

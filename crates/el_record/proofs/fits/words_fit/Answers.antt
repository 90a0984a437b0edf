use Rattle.el_record.proofs.Fitting.{word_texts}
use Rattle.el_record.proofs.fits.words_fit.Goals as goal

pub returns-clause-texts : goal.returns-clause-texts
returns-clause-texts c = word_texts c.args.words.now c.len-count.ensures.bounded c.iter-words.ensures.no_nul

use Rattle.std.proofs.Common.{arith}
use Rattle.el_record.proofs.Fitting.{word_text}
use Rattle.el_record.proofs.fits.variable_fits.Goals as goal

pub returns-clause-name : goal.returns-clause-name
returns-clause-name c = word_text c.args.variable.now.name.now (omega arith) c.args.variable.now.name_is_word

pub returns-clause-value : goal.returns-clause-value
returns-clause-value c = word_text c.args.variable.now.value.now (omega arith) c.args.variable.now.value_is_word

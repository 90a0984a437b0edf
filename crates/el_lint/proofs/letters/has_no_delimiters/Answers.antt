use Rattle.el_lint.proofs.LettersFound.{no-value}
use Rattle.el_lint.proofs.letters.has_no_delimiters.Goals as goal

pub returns : goal.returns
returns g c = no-value c.args.table.now.opts c.args.options.now c.in_ok-words.words c.in-Err.field-0 c.in_ok-words.ensures (rw c.in-Err.is at c.in_ok-letters.ensures)

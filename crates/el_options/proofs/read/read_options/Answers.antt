use Rattle.el_options.proofs.Wholes.{read-within}
use Rattle.el_options.proofs.read.read_options.Goals as goal

pub returns-clause-used : goal.returns-clause-used
returns-clause-used g c =
    let read = rw c.if-branch.false at c.in_ok-option_word.ensures.ok in
    read-within c.args.table.now.opts c.args.words.now c.option_word.new.self.slots c.option_word.new.self.used read

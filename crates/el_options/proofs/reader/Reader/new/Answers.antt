use Rattle.std.proofs.Common.{arith}
use Rattle.el_options.proofs.Steps.{at-start}
use Rattle.el_options.proofs.reader.Reader.new.Goals as goal

pub returns : goal.returns
returns g c = at-start c.args.table.now.opts c.args.words.now g.row.N (omega arith) c.requires.named

use Rattle.el_blocks.proofs.Blocks.{block-unspelled}
use Rattle.el_blocks.proofs.block.unspell_front.Goals as goal

pub returns-clause-block : goal.returns-clause-block
returns-clause-block c = block-unspelled c.unspell_at.result c.args.words.now c.args.len c.unspell_at.ensures

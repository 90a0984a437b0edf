use Rattle.std.proofs.Common.{◌∙◌, ap}
use Rattle.el_blocks.specs.Block.{block_length}
use Rattle.el_blocks.proofs.Blocks.{block-found, ok_or-some}
use Rattle.el_blocks.proofs.block.block_len.Goals as goal

pub returns-clause-block : goal.returns-clause-block
returns-clause-block c = λ inside rest is. ok_or-some _ _ _ _ c.ok_or.ensures.value (c.block_len_at.ensures.found ∙ ap block_length is ∙ block-found inside rest)

use Rattle.std.proofs.Common.{◌∙◌, rules, tests}
use Rattle.std.proofs.lemmas.Iterator.Adapters.{YieldsList-from_skip}
use Rattle.std.proofs.lemmas.Iterator.Search.{position_from_yields_List}
use Rattle.el_blocks.specs.Block.{is_empty_word}
use Rattle.el_blocks.proofs.Chains.{all-words}
use Rattle.el_blocks.proofs.Blocks.{empty-test}
use Rattle.el_blocks.proofs.block.block_len_at.Goals as goal

pub returns-clause-found : goal.returns-clause-found
returns-clause-found c =
    position_from_yields_List is_empty_word _ _ _ c.position.ensures.ran
    (YieldsList-from_skip c.args.from (all-words c.args.words.now (c.skip.ensures.source ∙ c.iter.ensures.rest)) c.skip.ensures.count) (λ x b q k. search (rules, tests, empty-test))

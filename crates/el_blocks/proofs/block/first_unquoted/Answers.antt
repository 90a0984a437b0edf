use Rattle.std.proofs.Common.{◌∙◌, not, rules, tests}
use Rattle.std.proofs.lemmas.Iterator.Search.{position_from_yields_List}
use Rattle.el_blocks.specs.Block.{is_quoted}
use Rattle.el_blocks.proofs.Chains.{first-words}
use Rattle.el_blocks.proofs.block.first_unquoted.Goals as goal

pub returns : goal.returns
returns c =
    position_from_yields_List (λ text. not (is_quoted text)) _ _ _ c.position.ensures.ran
    (first-words c.args.len c.args.words.now (c.take.ensures.source ∙ c.iter.ensures.rest) c.take.ensures.count) (λ x b q k. search (rules, tests))

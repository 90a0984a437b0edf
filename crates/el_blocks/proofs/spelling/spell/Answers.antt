use Rattle.el_blocks.proofs.Found.{answer-ok, answer-fault}
use Rattle.el_blocks.proofs.spelling.spell.Goals as goal

pub returns-clause-ok : goal.returns-clause-ok
returns-clause-ok c = answer-ok c.args.tokens.now c.spell_all.result c.spell_all.ensures

pub returns-clause-fault : goal.returns-clause-fault
returns-clause-fault c = answer-fault c.args.tokens.now c.spell_all.result c.spell_all.ensures

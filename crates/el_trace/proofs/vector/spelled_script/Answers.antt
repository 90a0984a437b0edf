use Rattle.el_trace.proofs.Words.{spelled_so}
use Rattle.el_trace.proofs.vector.spelled_script.Goals as goal

pub returns : goal.returns
returns c = λ params tree accepted. spelled_so params c.args.script.now tree c.in-Ok.tokens c.in-Ok-spell.words accepted c.in-Ok.ensures.exact c.in-Ok-spell.ensures.exact

use Rattle.el_proc.proofs.InputWords.{before_nul-some, before_nul-none}
use Rattle.el_proc.proofs.input.before_nul.Goals as goal

pub returns-in-Some-clause-same : goal.returns-in-Some-clause-same
returns-in-Some-clause-same c = before_nul-some c.args.bytes.now c.in-Some.place c.in-Some.ensures

pub returns-in-None-clause-same : goal.returns-in-None-clause-same
returns-in-None-clause-same c = before_nul-none c.args.bytes.now c.in-None.ensures

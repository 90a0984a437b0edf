use Rattle.el_proc.proofs.Causes.{start_caused}
use Rattle.el_proc.proofs.child.start_child.Goals as goal

pub returns-clause-cause : goal.returns-clause-cause
returns-clause-cause g c = rw c.started_by.ensures (start_caused c.args.words.now c.args.env.now c.args.dir.now c.args.streams.now c.in_ok-start.field-0 c.in_ok-start.ensures.run)

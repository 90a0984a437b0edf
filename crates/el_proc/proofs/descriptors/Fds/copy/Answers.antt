use Rattle.el_proc.proofs.Lost.{lost_same}
use Rattle.el_proc.proofs.descriptors.Fds.copy.Goals as goal

pub returns-in-Ok-clause-lost : goal.returns-in-Ok-clause-lost
returns-in-Ok-clause-lost c = lost_same c.args.self.now
